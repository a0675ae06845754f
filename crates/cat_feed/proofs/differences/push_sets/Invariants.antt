use Rattle.std.proofs.Common.{◌≡◌, ◌++◌, length}
use Rattle.cat_feed.specs.Changes.{sets}
use Rattle.cat_feed.specs.Rest.{left}
use Rattle.cat_feed.proofs.differences.push_sets.Given as goal

abbrev pub invariant-loop-rest : goal.invariant-loop-rest
invariant-loop-rest l = l.found.items ++ sets (left l.rest) ≡ l.initial.found.items ++ sets (left l.initial.rest)

abbrev pub decreases-loop-rest : goal.decreases-loop-rest
decreases-loop-rest l = length (left l.rest)
