use Rattle.std.proofs.Common.{◌≡◌}
use Rattle.cat_collections.specs.Left.{items_left}
use Rattle.cat_state_check.specs.Indexed.{with_rows}
use Rattle.cat_state_check.proofs.offers.index_of.Given as goal

-- with the rows that are left, the index is that of all
abbrev pub invariant-loop-arrival : goal.invariant-loop-arrival
invariant-loop-arrival l =
    goal.iterator-loop-arrival.can_next l.arrival-iterator
    × goal.iterator-loop-arrival.is_finite l.arrival-iterator
    × (with_rows (items_left l.arrival-iterator) l.index ≡ with_rows l.rows l.initial.index)
