use Rattle.std.proofs.Common.{◌≡◌, nat_eq}
use Rattle.cat_owned_map.specs.BoxedLeft.{boxed_left}
use Rattle.cat_core.specs.Numbered.{key_where}
use Rattle.cat_core.proofs.known.record_numbered.Given as goal

-- the first of those that are left with the number is the first of all
abbrev pub invariant-loop-reference : goal.invariant-loop-reference
invariant-loop-reference l =
    goal.iterator-loop-reference.can_next l.reference-iterator
    × goal.iterator-loop-reference.is_finite l.reference-iterator
    × (key_where (λ x. nat_eq l.number x.number) (boxed_left l.reference-iterator) ≡ key_where (λ x. nat_eq l.number x.number) l.records)
