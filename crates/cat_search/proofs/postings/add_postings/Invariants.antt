use Rattle.std.proofs.Common.{◌≡◌, ◌++◌, map}
use Rattle.std.specs.Vec.Iter.{into_iter_items}
use Rattle.cat_search.specs.Index.{terms_at}
use Rattle.cat_search.proofs.postings.add_postings.Given as goal

-- the postings so far and those of the terms that are left are all
abbrev pub invariant-loop-term : goal.invariant-loop-term
invariant-loop-term l =
    goal.iterator-loop-term.can_next l.term-iterator
    × goal.iterator-loop-term.is_finite l.term-iterator
    × (l.found.items ++ map (λ t. (t, l.entry)) (into_iter_items l.term-iterator) ≡ l.fn.found.items ++ map (λ t. (t, l.entry)) (terms_at l.documents l.entry))
