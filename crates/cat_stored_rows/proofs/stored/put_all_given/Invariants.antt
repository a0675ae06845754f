use Rattle.std.proofs.Common.{◌≡◌}
use Rattle.std.specs.List.{flat_map}
use Rattle.cat_collections.specs.Left.{items_left}
use Rattle.cat_stored_rows.specs.Stored.{put_rows, given_in}
use Rattle.cat_stored_rows.proofs.stored.put_all_given.Given as goal

-- the rows that are left make of the rows so far what all make of those at the start
abbrev pub invariant-loop-arrival : goal.invariant-loop-arrival
invariant-loop-arrival l =
    goal.iterator-loop-arrival.can_next l.arrival-iterator
    × goal.iterator-loop-arrival.is_finite l.arrival-iterator
    × (put_rows (flat_map (given_in l.version) (items_left l.arrival-iterator)) l.made ≡ put_rows (flat_map (given_in l.version) l.rows) l.initial.made)
