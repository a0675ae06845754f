use Rattle.std.proofs.Common.{◌≡◌}
use Rattle.cat_collections.specs.Left.{items_left}
use Rattle.cat_keeper.specs.Store.{applied}
use Rattle.cat_keeper.proofs.rows.apply.Given as goal

-- the changes that are left make of the rows so far what the whole batch makes of the rows at the start
abbrev pub invariant-loop-entry : goal.invariant-loop-entry
invariant-loop-entry l =
    goal.iterator-loop-entry.can_next l.entry-iterator
    × goal.iterator-loop-entry.is_finite l.entry-iterator
    × (applied (items_left l.entry-iterator) l.made ≡ applied l.batch l.rows)
