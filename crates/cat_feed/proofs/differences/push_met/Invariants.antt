use Rattle.std.proofs.Common.{◌≡◌, ◌++◌, List, length}
use Rattle.cat_feed.specs.Changes.{Difference, Documents}
use Rattle.cat_feed.specs.Rest.{left}
use Rattle.cat_feed.specs.Walk.{walked_at}
use Rattle.cat_feed.proofs.differences.push_met.Given as goal

-- what was found, and what the walk over the rest finds, is all
abbrev pub invariant-loop-rest : goal.invariant-loop-rest
invariant-loop-rest l =
    (next : Documents → List Difference)
    → l.found.items ++ walked_at (l.reference, l.node) next (left l.rest) ≡ l.initial.found.items ++ walked_at (l.reference, l.node) next (left l.initial.rest)

abbrev pub decreases-loop-rest : goal.decreases-loop-rest
decreases-loop-rest l = length (left l.rest)
