use Rattle.std.proofs.Common.{◌≡◌}
use Rattle.std.specs.List.{list_all}
use Rattle.cat_owned_map.specs.BoxedLeft.{boxed_left}
use Rattle.cat_state_check.specs.Candidate.{is_right_record}
use Rattle.cat_state_check.proofs.candidate.are_right_records.Given as goal

-- all are right where those that are left are
abbrev pub invariant-loop-reference : goal.invariant-loop-reference
invariant-loop-reference l =
    goal.iterator-loop-reference.can_next l.reference-iterator
    × goal.iterator-loop-reference.is_finite l.reference-iterator
    × (list_all (is_right_record l.m l.index l.names) (boxed_left l.reference-iterator) ≡ list_all (is_right_record l.m l.index l.names) l.m.records)
