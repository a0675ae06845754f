use Rattle.std.proofs.Common.{◌≡◌, [], drop}
use Rattle.cat_row_reader.specs.Standing.{item_with, told_by}
use Rattle.cat_row_reader.proofs.state.items_of.Given as goal

-- what the rows that are left make of those so far is the whole
abbrev pub invariant-loop-row : goal.invariant-loop-row
invariant-loop-row l = told_by (item_with l.trees) (drop l.row-index l.rows) l.items ≡ told_by (item_with l.trees) l.rows []
