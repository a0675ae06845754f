use Rattle.std.proofs.Common.{◌≡◌, ◌+◌, ◌++◌, length}
use Rattle.cat_collections.specs.Left.{items_left}
use Rattle.cat_feed.specs.Changes.{numbered, sets}
use Rattle.cat_feed.proofs.ledger.all_set.Given as goal

-- the changes so far, and those for the documents that are left, are all
abbrev pub invariant-loop-reference : goal.invariant-loop-reference
invariant-loop-reference l =
    goal.iterator-loop-reference.can_next l.reference-iterator
    × goal.iterator-loop-reference.is_finite l.reference-iterator
    × (l.count + length (items_left l.reference-iterator) ≡ length l.documents)
    × (l.changes.items ++ numbered l.count (sets (items_left l.reference-iterator)) ≡ numbered 0 (sets l.documents))
