use Rattle.std.proofs.Common.{◌≡◌, ◌≤◌, length, drop}
use Rattle.cat_pages.specs.Page.{least}
use Rattle.cat_pages.proofs.rank.least.Given as goal

-- the least of those that were seen, from the end
abbrev pub invariant-loop-left : goal.invariant-loop-left
invariant-loop-left l = (l.left ≤ length l.texts) × (l.best ≡ least (drop l.left l.texts))

abbrev pub decreases-loop-left : goal.decreases-loop-left
decreases-loop-left l = l.left
