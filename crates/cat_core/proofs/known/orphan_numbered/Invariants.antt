use Rattle.std.proofs.Common.{◌≡◌, nat_eq}
use Rattle.cat_collections.specs.Left.{items_left}
use Rattle.cat_core.specs.Numbered.{key_where}
use Rattle.cat_core.proofs.known.orphan_numbered.Given as goal

-- the first of those that are left with the number is the first of all
abbrev pub invariant-loop-reference : goal.invariant-loop-reference
invariant-loop-reference l =
    goal.iterator-loop-reference.can_next l.reference-iterator
    × goal.iterator-loop-reference.is_finite l.reference-iterator
    × (key_where (λ x. nat_eq l.number x.number) (items_left l.reference-iterator) ≡ key_where (λ x. nat_eq l.number x.number) l.orphans)
