use Rattle.std.proofs.Common.{◌≡◌, drop}
use Rattle.std.specs.List.{flat_map}
use Rattle.cat_collections.specs.Table.{puts, text_cmp}
use Rattle.cat_row_reader.specs.Standing.{record_in, records_of}
use Rattle.cat_row_reader.proofs.state.records_of.Given as goal

-- what the rows that are left make of those so far is the whole
abbrev pub invariant-loop-row : goal.invariant-loop-row
invariant-loop-row l = puts text_cmp (flat_map (record_in l.trees) (drop l.row-index l.rows)) l.made ≡ records_of l.trees l.rows
