use Rattle.std.proofs.Common.{◌≡◌, ◌≤◌, ◌+◌, drop, length}
use Rattle.std.specs.Vec.Iter.{into_iter_items}
use Rattle.cat_collections.specs.Table.{puts, text_cmp}
use Rattle.cat_collections.specs.declared.tree.TheConstants.{MOST}
use Rattle.cat_types.specs.Amended.{amended, without_all}
use Rattle.cat_model.proofs.records.Records.amend.Given as goal

-- without the references that are left, the records are those without all of them, and no more than before
abbrev pub invariant-loop-reference : goal.invariant-loop-reference
invariant-loop-reference l = (without_all text_cmp (drop l.reference-index l.gone) l.self ≡ without_all text_cmp l.gone l.fn.self) × (length l.self ≤ length l.fn.self)

-- with the records that are left put, they are all that is wanted, and there is room for those
abbrev pub invariant-loop-record : goal.invariant-loop-record
invariant-loop-record l =
    goal.iterator-loop-record.can_next l.record-iterator
    × goal.iterator-loop-record.is_finite l.record-iterator
    × (puts text_cmp (into_iter_items l.record-iterator) l.self ≡ amended text_cmp l.fn.ready.items l.gone l.fn.self)
    × (length l.self + length (into_iter_items l.record-iterator) ≤ MOST)
