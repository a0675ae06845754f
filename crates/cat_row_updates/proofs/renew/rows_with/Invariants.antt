use Rattle.std.proofs.Common.{◌≡◌}
use Rattle.cat_collections.specs.Left.{items_left}
use Rattle.cat_row_updates.specs.Places.{renewed}
use Rattle.cat_row_updates.proofs.renew.rows_with.Given as goal

-- the places that are left make of the rows so far what all make of those at the start
abbrev pub invariant-loop-key : goal.invariant-loop-key
invariant-loop-key l =
    goal.iterator-loop-key.can_next l.key-iterator
    × goal.iterator-loop-key.is_finite l.key-iterator
    × (renewed l.rule l.m (items_left l.key-iterator) l.made ≡ renewed l.rule l.m l.places l.rows)
