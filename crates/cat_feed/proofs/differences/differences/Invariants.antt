use Rattle.std.proofs.Common.{◌≡◌, ◌++◌}
use Rattle.cat_collections.specs.Left.{items_left}
use Rattle.cat_feed.specs.Rest.{left}
use Rattle.cat_feed.specs.Walk.{walked}
use Rattle.cat_feed.proofs.differences.differences.Given as goal

-- what was found, and what the walk over the rest of both finds, is all
abbrev pub invariant-loop-reference : goal.invariant-loop-reference
invariant-loop-reference l =
    goal.iterator-loop-reference.can_next l.reference-iterator
    × goal.iterator-loop-reference.is_finite l.reference-iterator
    × (l.found.items ++ walked (items_left l.reference-iterator) (left l.rest) ≡ walked l.copy l.documents)
