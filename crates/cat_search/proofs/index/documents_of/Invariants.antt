use Rattle.std.proofs.Common.{◌≡◌, ◌++◌, map}
use Rattle.cat_collections.specs.Left.{items_left}
use Rattle.cat_search.specs.Index.{documents_of}
use Rattle.cat_search.proofs.index.documents_of.Given as goal

-- the documents so far and those of the references that are left are all
abbrev pub invariant-loop-reference : goal.invariant-loop-reference
invariant-loop-reference l =
    goal.iterator-loop-reference.can_next l.reference-iterator
    × goal.iterator-loop-reference.is_finite l.reference-iterator
    × (map (λ e. e.now) l.entries.items ++ documents_of l.documents (items_left l.reference-iterator) ≡ documents_of l.documents l.found)
