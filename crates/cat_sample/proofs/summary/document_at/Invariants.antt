use Rattle.std.proofs.Common.{◌≡◌}
use Rattle.cat_collections.specs.Left.{items_left}
use Rattle.cat_sample.specs.Summary.{document_at}
use Rattle.cat_sample.proofs.summary.document_at.Given as goal

-- it is found among the documents that are left
abbrev pub invariant-loop-entry : goal.invariant-loop-entry
invariant-loop-entry l =
    goal.iterator-loop-entry.can_next l.entry-iterator
    × goal.iterator-loop-entry.is_finite l.entry-iterator
    × (document_at l.name (items_left l.entry-iterator) ≡ document_at l.name l.documents)
