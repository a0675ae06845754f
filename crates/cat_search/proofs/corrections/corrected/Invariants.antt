use Rattle.std.proofs.Common.{◌≡◌}
use Rattle.cat_collections.specs.Left.{items_left}
use Rattle.cat_search.specs.Index.{corrected}
use Rattle.cat_search.proofs.corrections.corrected.Given as goal

-- with the references that are left corrected too, all are
abbrev pub invariant-loop-reference : goal.invariant-loop-reference
invariant-loop-reference l =
    goal.iterator-loop-reference.can_next l.reference-iterator
    × goal.iterator-loop-reference.is_finite l.reference-iterator
    × (corrected l.filters l.documents (items_left l.reference-iterator) l.found ≡ corrected l.filters l.documents l.pending l.initial.found)
