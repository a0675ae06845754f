use Rattle.std.proofs.Common.{◌≡◌, drop}
use Rattle.std.specs.List.{flat_map}
use Rattle.cat_collections.specs.Table.{puts, text_cmp}
use Rattle.cat_row_reader.specs.Standing.{shelf_of, text_in}
use Rattle.cat_row_reader.proofs.state.shelf_of.Given as goal

-- what the rows that are left make of those so far is the whole
abbrev pub invariant-loop-row : goal.invariant-loop-row
invariant-loop-row l = puts text_cmp (flat_map text_in (drop l.row-index l.rows)) l.shelf ≡ shelf_of l.rows
