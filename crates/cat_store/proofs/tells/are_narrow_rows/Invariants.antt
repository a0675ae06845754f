use Rattle.std.proofs.Common.{◌≡◌}
use Rattle.std.specs.List.{AllByRecursion, list_all}
use Rattle.cat_collections.specs.Left.{items_left}
use Rattle.cat_store.specs.Tells.{IsProperRow, is_narrow_row}
use Rattle.cat_store.proofs.tells.are_narrow_rows.Given as goal

abbrev pub invariant-loop-arrival : goal.invariant-loop-arrival
invariant-loop-arrival l =
    goal.iterator-loop-arrival.can_next l.arrival-iterator
    × goal.iterator-loop-arrival.is_finite l.arrival-iterator
    × (list_all is_narrow_row (items_left l.arrival-iterator) ≡ list_all is_narrow_row l.rows)
    × (AllByRecursion IsProperRow (items_left l.arrival-iterator) → AllByRecursion IsProperRow l.rows)
