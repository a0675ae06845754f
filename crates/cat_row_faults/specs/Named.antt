-- Which row is named where the first that is wrong, and the first that is missing, are known.
use Rattle.std.specs.Prelude.{ℕ, nat_lt, if◌then◌else◌, slice_get}
use Rattle.std.specs.Option.{option_map}
use Rattle.std.specs.declared.option.Option.{Option}
use Rattle.std.specs.declared.option.Option.TheVariants.{None, Some}
use Rattle.cat_collections.specs.Places.{before}
use Rattle.cat_keeper.specs.Store.{RowKey, Rows, row_cmp}

-- the row at a place
abbrev pub named_at : Rows → ℕ → Option RowKey
named_at texts place = option_map (λ e. e.0) (slice_get texts place)

-- the missing row with this key, or the wrong one at a place where that stands before it
abbrev pub missing_or : Rows → RowKey → Option ℕ → Option RowKey
missing_or texts key None = Some key
missing_or texts key (Some place) = if nat_lt place (before row_cmp key texts) then named_at texts place else Some key
