use Rattle.std.proofs.Common.{◌≡◌, ◌++◌}
use Rattle.cat_owned_map.specs.BoxedLeft.{boxed_left}
use Rattle.cat_collections.specs.Table.{keys}
use Rattle.cat_model.proofs.records.Records.keys.Given as goal

-- the references so far and those that are left are all references
abbrev pub invariant-loop-reference : goal.invariant-loop-reference
invariant-loop-reference l =
    goal.iterator-loop-reference.can_next l.reference-iterator
    × goal.iterator-loop-reference.is_finite l.reference-iterator
    × (l.references.items ++ keys (boxed_left l.reference-iterator) ≡ keys l.self)
