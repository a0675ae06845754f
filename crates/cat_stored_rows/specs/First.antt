-- The rows that a store of the first version has of a state.
use Rattle.std.specs.Prelude.{List, [], ◌++◌, if◌then◌else◌}
use Rattle.cat_model.specs.declared.types.OrphanRule.TheVariants.{Keep}
use Rattle.cat_model.specs.declared.types.State.{State}
use Rattle.cat_row_format.specs.declared.row.StoredRow.{StoredRow}
use Rattle.cat_stored_rows.specs.Stored.{Stored, counter_rows, is_blank, kept_in, put_rows}
use Rattle.cat_stored_rows.specs.declared.version.Version.TheVariants.{One}

-- the counters, and a row for each provider, item, shelf text, record and orphan: the trees of items and offers stand beside them
abbrev pub all_first : State → List StoredRow
all_first m = counter_rows m ++ kept_in One m

-- the rows of a state in the first version: none of a blank one
abbrev pub first_rows_of : State → List StoredRow
first_rows_of m = if is_blank Keep m then [] else all_first m

-- the rows of a state in the first version, in order of their tables and keys
unfoldable pub first : State → Stored
first m = put_rows (first_rows_of m) []
