use Rattle.std.proofs.Common.{◌≡◌, ◌≤◌, length, drop}
use Rattle.cat_model.specs.Step.{put_all}
use Rattle.cat_mutations.proofs.items.with_all.Given as goal

abbrev pub invariant-loop-left : goal.invariant-loop-left
invariant-loop-left l = (l.left ≤ length l.entries) × (l.made ≡ put_all (drop l.left l.entries) l.initial.made)

abbrev pub decreases-loop-left : goal.decreases-loop-left
decreases-loop-left l = l.left
