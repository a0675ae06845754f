use Rattle.std.proofs.Common.{◌≡◌, ◌++◌}
use Rattle.cat_owned_map.specs.BoxedLeft.{boxed_left}
use Rattle.cat_model.proofs.records.copied.Given as goal

-- the copies so far and the records that are left are all records
abbrev pub invariant-loop-entry : goal.invariant-loop-entry
invariant-loop-entry l =
    goal.iterator-loop-entry.can_next l.entry-iterator
    × goal.iterator-loop-entry.is_finite l.entry-iterator
    × (l.made.items ++ boxed_left l.entry-iterator ≡ l.records)
