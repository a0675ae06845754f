use Rattle.std.proofs.Common.{◌≡◌, ◌++◌}
use Rattle.cat_collections.specs.Left.{items_left}
use Rattle.cat_stored_rows.specs.Stored.{texts_of}
use Rattle.cat_stored_rows.proofs.texts.texts.Given as goal

-- the texts so far, and those of the rows that are left, are all
abbrev pub invariant-loop-entry : goal.invariant-loop-entry
invariant-loop-entry l =
    goal.iterator-loop-entry.can_next l.entry-iterator
    × goal.iterator-loop-entry.is_finite l.entry-iterator
    × (l.entries.items ++ texts_of (items_left l.entry-iterator) ≡ texts_of l.rows)
