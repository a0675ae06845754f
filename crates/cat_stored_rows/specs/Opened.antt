-- What the rows of a store say of the state that it opens as.
use Rattle.std.specs.Prelude.{◌≡◌, ◌-◌, Bool, true, false, length, slice_get}
use Rattle.std.specs.declared.option.Option.{Option}
use Rattle.std.specs.declared.option.Option.TheVariants.{None, Some}
use Rattle.cat_collections.specs.Table.{Text}
use Rattle.cat_keeper.specs.Store.{RowKey, Rows}
use Rattle.cat_keeper.specs.declared.table.Table.{Table}
use Rattle.cat_keeper.specs.declared.table.Table.TheVariants.{Counters, Providers, Items, Shelf, Records, Orphans, Settings, Trees}
use Rattle.cat_model.specs.declared.types.OrphanRule.{OrphanRule}
use Rattle.cat_model.specs.declared.types.OrphanRule.TheVariants.{Keep}
use Rattle.cat_model.specs.declared.types.State.{State}
use Rattle.cat_stored_rows.specs.First.{first}
use Rattle.cat_stored_rows.specs.Stored.{Stored, stored, texts_of}

-- whether stores of the first version have this table
abbrev pub is_of_first : Table → Bool
is_of_first Counters = true
is_of_first Providers = true
is_of_first Items = true
is_of_first Shelf = true
is_of_first Records = true
is_of_first Orphans = true
is_of_first Settings = false
is_of_first Trees = false

-- whether there is a row, of such a table
abbrev pub is_row_of_first : Option (RowKey × Text) → Bool
is_row_of_first None = false
is_row_of_first (Some row) = is_of_first row.0.0

-- whether rows are those of a store of the first version: there is a last one, and it is of such a table
abbrev pub is_first : Rows → Bool
is_first rows = is_row_of_first (slice_get rows (length rows - 1))

-- the rows of a state under a rule for orphans, in the first version or else in the second
abbrev pub rows_in : Bool → OrphanRule → State → Stored
rows_in true rule m = first m
rows_in false rule m = stored rule m

-- rows were read to a state: they are those of that state in the version that they are of, in the second under some rule for orphans
abbrev pub IsRead : Rows → State → Type 0
IsRead rows m = (rule : OrphanRule) × (texts_of (rows_in (is_first rows) rule m) ≡ rows)

-- the rows name this rule for orphans: they are those of the state under it; a store of the first version, which names none, stands under the one that keeps
abbrev pub HasRule : Rows → OrphanRule → State → Type 0
HasRule rows rule m = (texts_of (rows_in (is_first rows) rule m) ≡ rows) × (is_first rows ≡ true → rule ≡ Keep)
