use Rattle.std.proofs.Common.{◌≡◌}
use Rattle.std.specs.Vec.Iter.{into_iter_items}
use Rattle.cat_keeper.specs.Store.{applied}
use Rattle.cat_journal.proofs.records.change_rows.Given as goal

-- the changes that are left make of the rows so far what all of them make of the rows at the start
abbrev pub invariant-loop-key : goal.invariant-loop-key
invariant-loop-key l =
    goal.iterator-loop-key.can_next l.key-iterator
    × goal.iterator-loop-key.is_finite l.key-iterator
    × (applied (into_iter_items l.key-iterator) l.rows ≡ applied l.fn.changes.items l.fn.rows)
