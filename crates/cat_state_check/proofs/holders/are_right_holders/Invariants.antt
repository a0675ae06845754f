use Rattle.std.proofs.Common.{◌≡◌}
use Rattle.std.specs.List.{list_all}
use Rattle.cat_collections.specs.Left.{items_left}
use Rattle.cat_state_check.specs.Candidate.{is_right_holder}
use Rattle.cat_state_check.proofs.holders.are_right_holders.Given as goal

-- of those that are left all pass where all of them do
abbrev pub invariant-loop-reference : goal.invariant-loop-reference
invariant-loop-reference l =
    goal.iterator-loop-reference.can_next l.reference-iterator
    × goal.iterator-loop-reference.is_finite l.reference-iterator
    × (list_all (is_right_holder l.m) (items_left l.reference-iterator) ≡ list_all (is_right_holder l.m) l.m.holders)
