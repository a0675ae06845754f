use Rattle.std.proofs.Common.{◌≡◌}
use Rattle.std.specs.List.{list_all}
use Rattle.cat_model.specs.declared.types.Origin.TheVariants.{Provider}
use Rattle.cat_collections.specs.Left.{items_left}
use Rattle.cat_state_check.specs.Candidate.{is_shown}
use Rattle.cat_state_check.proofs.offers.are_items_shown.Given as goal

-- of those that are left all pass where all of them do
abbrev pub invariant-loop-reference : goal.invariant-loop-reference
invariant-loop-reference l =
    goal.iterator-loop-reference.can_next l.reference-iterator
    × goal.iterator-loop-reference.is_finite l.reference-iterator
    × (list_all (λ x. is_shown l.rows l.index (Provider l.provider) x.0) (items_left l.reference-iterator) ≡ list_all (λ x. is_shown l.rows l.index (Provider l.provider) x.0) l.inputs.items)
