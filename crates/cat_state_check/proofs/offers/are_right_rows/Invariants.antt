use Rattle.std.proofs.Common.{◌≡◌}
use Rattle.std.specs.List.{list_all}
use Rattle.cat_collections.specs.Left.{items_left}
use Rattle.cat_state_check.specs.Candidate.{is_right_row}
use Rattle.cat_state_check.proofs.offers.are_right_rows.Given as goal

-- of those that are left all pass where all of them do
abbrev pub invariant-loop-arrival : goal.invariant-loop-arrival
invariant-loop-arrival l =
    goal.iterator-loop-arrival.can_next l.arrival-iterator
    × goal.iterator-loop-arrival.is_finite l.arrival-iterator
    × (list_all (is_right_row l.m l.index) (items_left l.arrival-iterator) ≡ list_all (is_right_row l.m l.index) l.m.rows)
