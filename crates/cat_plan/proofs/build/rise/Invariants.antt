use Rattle.std.proofs.Common.{◌≡◌, ◌-◌, ◌+◌, length, drop, ℕ}
use Rattle.std.specs.List.Sorted.{IsStrictlySortedBy}
use Rattle.cat_plan.proofs.build.rise.Given as goal

-- the keys rise where those from the place before on do
abbrev pub invariant-loop-place : goal.invariant-loop-place
invariant-loop-place g l =
    (before : ℕ) × (l.place ≡ before + 1) × (IsStrictlySortedBy g.K.Key.order (drop before l.keys) → IsStrictlySortedBy g.K.Key.order l.keys)

abbrev pub decreases-loop-place : goal.decreases-loop-place
decreases-loop-place g l = length l.keys - l.place
