use Rattle.std.proofs.Common.{◌≡◌, ◌++◌}
use Rattle.std.specs.Vec.Iter.{into_iter_items}
use Rattle.cat_model.proofs.records.ready.Given as goal

-- what is ready so far and the records that are left are all records
abbrev pub invariant-loop-reference : goal.invariant-loop-reference
invariant-loop-reference l =
    goal.iterator-loop-reference.can_next l.reference-iterator
    × goal.iterator-loop-reference.is_finite l.reference-iterator
    × (l.ready.items ++ into_iter_items l.reference-iterator ≡ l.fn.records.items)
