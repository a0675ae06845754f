use Rattle.std.proofs.Common.{◌≡◌, drop}
use Rattle.std.specs.Vec.Iter.{into_iter_items}
use Rattle.cat_collections.specs.Table.{puts, text_cmp}
use Rattle.cat_types.specs.Amended.{amended, without_all}
use Rattle.cat_state_parts.proofs.marks.Marks.amended.Given as goal

-- without the references that are left, the marks are those without all of them
abbrev pub invariant-loop-reference : goal.invariant-loop-reference
invariant-loop-reference l = without_all text_cmp (drop l.reference-index l.gone) l.next ≡ without_all text_cmp l.gone l.self

-- with the marks that are left put, they are all that is wanted
abbrev pub invariant-loop-marked : goal.invariant-loop-marked
invariant-loop-marked l =
    goal.iterator-loop-marked.can_next l.marked-iterator
    × goal.iterator-loop-marked.is_finite l.marked-iterator
    × (puts text_cmp (into_iter_items l.marked-iterator) l.next ≡ amended text_cmp l.fn.put.items l.gone l.self)
