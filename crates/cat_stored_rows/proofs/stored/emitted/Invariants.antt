use Rattle.std.proofs.Common.{◌≡◌}
use Rattle.std.specs.List.{flat_map}
use Rattle.cat_collections.specs.Left.{items_left}
use Rattle.cat_collections.specs.Table.{puts}
use Rattle.cat_stored_rows.specs.Stored.{emitted, emitted_as, pairs_cmp}
use Rattle.cat_stored_rows.proofs.stored.emitted.Given as goal

-- the rows that are left make of the arrival numbers so far those of all
abbrev pub invariant-loop-arrival : goal.invariant-loop-arrival
invariant-loop-arrival l =
    goal.iterator-loop-arrival.can_next l.arrival-iterator
    × goal.iterator-loop-arrival.is_finite l.arrival-iterator
    × (puts pairs_cmp (flat_map emitted_as (items_left l.arrival-iterator)) l.arrivals ≡ emitted l.rows)
