-- The first row by which the rows of a store differ from others.
use Rattle.std.specs.Prelude.{◌≡◌, ℕ, ◌<◌, slice_get}
use Rattle.std.specs.declared.cmp.Ordering.{Ordering}
use Rattle.std.specs.declared.cmp.Ordering.TheVariants.{Less, Equal, Greater}
use Rattle.std.specs.declared.option.Option.{Option}
use Rattle.std.specs.declared.option.Option.TheVariants.{None, Some}
use Rattle.cat_keeper.specs.Store.{RowKey, Rows, row_cmp}
use Rattle.cat_row_faults.specs.Named.{named_at}

-- the first of two keys where it stands before the second, or else the second
abbrev pub sooner : Ordering → RowKey → RowKey → RowKey
sooner Less key other = key
sooner Equal key other = other
sooner Greater key other = other

-- the earlier of two keys, where there are two
abbrev pub earlier : Option RowKey → Option RowKey → Option RowKey
earlier None other = other
earlier (Some key) None = Some key
earlier (Some key) (Some other) = Some (sooner (row_cmp key other) key other)

-- Rows part from others at this key: in the first place in which they don't have the same row it is the key of the row there, of two the earlier one.
pub record PartAt (rows others : Rows) (key : RowKey) : Type 0 where
  pub place : ℕ
  pub apart : ¬ (slice_get rows place ≡ slice_get others place)
  pub before : (p : ℕ) → p < place → slice_get rows p ≡ slice_get others p
  pub named : earlier (named_at rows place) (named_at others place) ≡ Some key
