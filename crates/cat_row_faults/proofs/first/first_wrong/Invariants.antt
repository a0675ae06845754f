use Rattle.std.proofs.Common.{◌≡◌, ◌<◌, ℕ, length, take, ◌-◌}
use Rattle.cat_row_faults.specs.First.{IsWrongAt}
use Rattle.cat_row_faults.specs.Readings.{read_rows}
use Rattle.cat_row_faults.specs.Rules.{weights}
use Rattle.cat_row_faults.specs.Told.{answers}
use Rattle.cat_row_faults.proofs.first.first_wrong.Given as goal

-- the input bytes of the rows so far, of which none is wrong
abbrev pub invariant-loop-place : goal.invariant-loop-place
invariant-loop-place l = (l.total ≡ weights (answers l.readings) (read_rows (take l.place l.readings))) × ((q : ℕ) → q < l.place → ¬ IsWrongAt l.limit l.readings q)

abbrev pub decreases-loop-place : goal.decreases-loop-place
decreases-loop-place l = length l.readings - l.place
