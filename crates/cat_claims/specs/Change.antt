-- A replacement of the rows of one origin, as far as holding looks at it.
use Rattle.std.specs.Prelude.{◌≡◌, ℕ, Bool, true, false, nat_le, List}
use Rattle.std.specs.declared.option.Option.{Option}
use Rattle.std.specs.declared.option.Option.TheVariants.{Some}
use Rattle.std.specs.List.{filter, list_any}
use Rattle.std.specs.Ordering.{eq_by_cmp, nat_cmp}
use Rattle.cat_collections.specs.Table.{keys, same_text}
use Rattle.cat_types.specs.declared.input.Offered.{Offered}
use Rattle.cat_model.specs.Catalogue.{Holders, Ref, Rows, row_at}
use Rattle.cat_model.specs.Rows.{given, same_origin}
use Rattle.cat_model.specs.Sound.{AreHolders}
use Rattle.cat_model.specs.declared.types.Origin.{Origin}
use Rattle.cat_model.specs.declared.types.Row.{Row}
use Rattle.cat_model.specs.Mend.{AreOpen, IsReplaced, lost}
use Rattle.cat_claims.specs.declared.types.Replaced.{Replaced}

-- whether an arrival is one of these
abbrev pub among : ℕ → List ℕ → Bool
among a arrivals = list_any (eq_by_cmp nat_cmp a) arrivals

-- all of some arrivals are among others
abbrev pub AreAmong : List ℕ → List ℕ → Type 0
AreAmong some all = (a : ℕ) → among a some ≡ true → among a all ≡ true

-- outside of these references the origin offers what its rows have
abbrev pub IsChangedAmong : Origin → (Ref → Option Offered) → List Ref → Rows → Type 0
IsChangedAmong o offers changed rows =
    (a : ℕ) (row : Row) → row_at rows a ≡ Some row → same_origin o row.origin ≡ true → list_any (same_text row.reference) changed ≡ false → offers row.reference ≡ Some row.offered

-- the rows of an origin were replaced: just the references that lost the row which held them are named as lost, the new rows are among those that are named, and each
-- row's origin is a provider or held
pub record IsMendable (x : Replaced) (holders : Holders) : Type 0 where
  pub origin : Origin
  pub before : Rows
  pub next : ℕ
  pub were : AreHolders before holders
  pub replaced : IsReplaced origin before next x.numbered.rows
  pub opens : AreOpen x.numbered.rows holders
  pub lost : (r : Ref) → list_any (same_text r) x.lost ≡ list_any (same_text r) (lost origin before x.numbered.rows holders)
  pub new : AreAmong (filter (nat_le next) (given x.numbered.rows origin)) (keys x.new)
