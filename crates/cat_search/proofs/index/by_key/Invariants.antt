use Rattle.std.proofs.Common.{◌≡◌, ◌≤◌, length, drop}
use Rattle.cat_search.specs.Index.{by_key}
use Rattle.cat_search.proofs.index.by_key.Given as goal

-- the references at the keys of the conditions from the place on
abbrev pub invariant-loop-left : goal.invariant-loop-left
invariant-loop-left l = (l.left ≤ length l.conditions) × (l.keyed ≡ by_key l.lists (drop l.left l.conditions))

abbrev pub decreases-loop-left : goal.decreases-loop-left
decreases-loop-left l = l.left
