use Rattle.std.proofs.Common.{◌≡◌}
use Rattle.cat_owned_map.specs.BoxedLeft.{boxed_left}
use Rattle.cat_model.specs.Dues.{first_taken}
use Rattle.cat_model.proofs.records.first_taken.Given as goal

-- the first of the moments that are left is the first of all
abbrev pub invariant-loop-due : goal.invariant-loop-due
invariant-loop-due l =
    goal.iterator-loop-due.can_next l.due-iterator
    × goal.iterator-loop-due.is_finite l.due-iterator
    × (first_taken l.now l.records (boxed_left l.due-iterator) ≡ first_taken l.now l.records l.dues)
