use Rattle.std.proofs.Common.{◌≡◌, ◌++◌}
use Rattle.cat_owned_map.specs.BoxedLeft.{boxed_left}
use Rattle.cat_model.specs.Dues.{refs_until}
use Rattle.cat_model.proofs.records.refs_until.Given as goal

-- the references so far and those of the moments that are left are all
abbrev pub invariant-loop-due : goal.invariant-loop-due
invariant-loop-due l =
    goal.iterator-loop-due.can_next l.due-iterator
    × goal.iterator-loop-due.is_finite l.due-iterator
    × (l.refs.items ++ refs_until l.now (boxed_left l.due-iterator) ≡ refs_until l.now l.dues)
