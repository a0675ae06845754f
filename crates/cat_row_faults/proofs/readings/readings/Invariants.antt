use Rattle.std.proofs.Common.{◌++◌}
use Rattle.cat_collections.specs.Left.{items_left}
use Rattle.cat_row_faults.specs.Readings.{AreReadings, Readings}
use Rattle.cat_row_faults.proofs.readings.readings.Given as goal

-- with readings of the texts that are left, those so far are readings of all
abbrev pub invariant-loop-entry : goal.invariant-loop-entry
invariant-loop-entry l =
    goal.iterator-loop-entry.can_next l.entry-iterator
    × goal.iterator-loop-entry.is_finite l.entry-iterator
    × ((os : Readings) → AreReadings (items_left l.entry-iterator) os → AreReadings l.texts (l.readings.items ++ os))
