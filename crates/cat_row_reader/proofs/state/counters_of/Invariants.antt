use Rattle.std.proofs.Common.{◌≡◌, drop}
use Rattle.cat_row_reader.specs.Standing.{arrival_by, number_by, told_by}
use Rattle.cat_row_reader.proofs.state.counters_of.Given as goal

-- what the rows that are left make of those so far is the whole
abbrev pub invariant-loop-row : goal.invariant-loop-row
invariant-loop-row l = (told_by arrival_by (drop l.row-index l.rows) l.next.arrival ≡ told_by arrival_by l.rows 1) × (told_by number_by (drop l.row-index l.rows) l.next.number ≡ told_by number_by l.rows 1)
