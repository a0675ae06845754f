use Rattle.std.proofs.Common.{◌≡◌}
use Rattle.cat_owned_map.specs.BoxedLeft.{boxed_left}
use Rattle.cat_state_check.specs.Indexed.{with_names}
use Rattle.cat_state_check.proofs.numbers.put_records.Given as goal

-- with the names that are left put, they are all
abbrev pub invariant-loop-reference : goal.invariant-loop-reference
invariant-loop-reference l =
    goal.iterator-loop-reference.can_next l.reference-iterator
    × goal.iterator-loop-reference.is_finite l.reference-iterator
    × (with_names (λ x. x.number) (boxed_left l.reference-iterator) l.names ≡ with_names (λ x. x.number) l.records l.fn.names)
