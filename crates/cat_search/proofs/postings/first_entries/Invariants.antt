use Rattle.std.proofs.Common.{◌≡◌, ◌++◌, take}
use Rattle.cat_collections.specs.Left.{items_left}
use Rattle.cat_collections.specs.Table.{keys}
use Rattle.cat_search.proofs.postings.first_entries.Given as goal

-- the references so far and the first of those that are left are the first of all
abbrev pub invariant-loop-reference : goal.invariant-loop-reference
invariant-loop-reference l =
    goal.iterator-loop-reference.can_next l.reference-iterator
    × goal.iterator-loop-reference.is_finite l.reference-iterator
    × (l.entries.items ++ take l.left (keys (items_left l.reference-iterator)) ≡ take l.most (keys l.set))
