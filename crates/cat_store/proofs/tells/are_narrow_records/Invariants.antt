use Rattle.std.proofs.Common.{◌≡◌}
use Rattle.std.specs.List.{AllByRecursion, list_all}
use Rattle.cat_owned_map.specs.BoxedLeft.{boxed_left}
use Rattle.cat_store.specs.Tells.{IsProperRecord, is_narrow_record}
use Rattle.cat_store.proofs.tells.are_narrow_records.Given as goal

abbrev pub invariant-loop-kept : goal.invariant-loop-kept
invariant-loop-kept l =
    goal.iterator-loop-kept.can_next l.kept-iterator
    × goal.iterator-loop-kept.is_finite l.kept-iterator
    × (list_all is_narrow_record (boxed_left l.kept-iterator) ≡ list_all is_narrow_record l.records)
    × (AllByRecursion IsProperRecord (boxed_left l.kept-iterator) → AllByRecursion IsProperRecord l.records)
