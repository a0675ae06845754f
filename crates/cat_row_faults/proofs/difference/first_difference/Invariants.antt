use Rattle.std.proofs.Common.{◌≡◌, ◌<◌, ℕ, ◌-◌}
use Rattle.std.specs.Prelude.{slice_get}
use Rattle.cat_row_faults.proofs.difference.first_difference.Given as goal

-- both have the same rows so far
abbrev pub invariant-loop-place : goal.invariant-loop-place
invariant-loop-place l = (p : ℕ) → p < l.place → slice_get l.rows p ≡ slice_get l.others p

abbrev pub decreases-loop-place : goal.decreases-loop-place
decreases-loop-place l = l.most - l.place
