use Rattle.std.proofs.Common.{◌≡◌, drop}
use Rattle.std.specs.List.{flat_map}
use Rattle.cat_row_reader.specs.Standing.{given_by, rows_of, with_rows}
use Rattle.cat_row_reader.proofs.state.rows_of.Given as goal

-- what the rows that are left make of those so far is the whole
abbrev pub invariant-loop-row : goal.invariant-loop-row
invariant-loop-row l = with_rows (flat_map (given_by l.trees) (drop l.row-index l.rows)) l.made ≡ rows_of l.trees l.rows
