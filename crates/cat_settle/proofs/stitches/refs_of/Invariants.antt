use Rattle.std.proofs.Common.{◌≡◌, ◌++◌}
use Rattle.std.specs.Vec.Iter.{into_iter_items}
use Rattle.cat_collections.specs.Table.{keys}
use Rattle.cat_settle.proofs.stitches.refs_of.Given as goal

-- the references taken so far, and those of the marks that are left
abbrev pub invariant-loop-reference : goal.invariant-loop-reference
invariant-loop-reference l =
    (goal.iterator-loop-reference).can_next l.reference-iterator
    × (goal.iterator-loop-reference).is_finite l.reference-iterator
    × (l.refs.items ++ keys (into_iter_items l.reference-iterator) ≡ keys l.fn.marks.items)
