use Rattle.std.proofs.Common.{◌≡◌, drop}
use Rattle.cat_row_reader.specs.Standing.{rule_by, rule_of, told_by}
use Rattle.cat_row_reader.proofs.state.rule_of.Given as goal

-- what the rows that are left make of those so far is the whole
abbrev pub invariant-loop-row : goal.invariant-loop-row
invariant-loop-row l = told_by rule_by (drop l.row-index l.rows) l.rule ≡ rule_of l.rows
