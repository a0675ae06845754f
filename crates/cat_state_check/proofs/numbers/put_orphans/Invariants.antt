use Rattle.std.proofs.Common.{◌≡◌}
use Rattle.cat_collections.specs.Left.{items_left}
use Rattle.cat_state_check.specs.Indexed.{with_names}
use Rattle.cat_state_check.proofs.numbers.put_orphans.Given as goal

-- with the names that are left put, they are all
abbrev pub invariant-loop-reference : goal.invariant-loop-reference
invariant-loop-reference l =
    goal.iterator-loop-reference.can_next l.reference-iterator
    × goal.iterator-loop-reference.is_finite l.reference-iterator
    × (with_names (λ x. x.number) (items_left l.reference-iterator) l.names ≡ with_names (λ x. x.number) l.orphans l.fn.names)
