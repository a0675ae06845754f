use Rattle.std.proofs.Common.{◌≡◌, ◌-◌, ◌+◌, length, drop, ℕ}
use Rattle.std.specs.FinMap.Entries.{is_sorted}
use Rattle.cat_collections.proofs.map.rise.Given as goal

-- the keys rise where those from the place before on do
abbrev pub invariant-loop-place : goal.invariant-loop-place
invariant-loop-place g l =
    (before : ℕ) × (l.place ≡ before + 1) × (is_sorted g.K.Key.order l.entries ≡ is_sorted g.K.Key.order (drop before l.entries))

abbrev pub decreases-loop-place : goal.decreases-loop-place
decreases-loop-place g l = length l.entries - l.place
