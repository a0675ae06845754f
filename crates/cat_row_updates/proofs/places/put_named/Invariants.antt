use Rattle.std.proofs.Common.{◌≡◌, drop}
use Rattle.std.specs.List.{flat_map}
use Rattle.cat_row_updates.specs.Places.{places_at, put_places}
use Rattle.cat_row_updates.proofs.places.put_named.Given as goal

-- the rows that are left make of the places so far what all make of those at the start
abbrev pub invariant-loop-arrival : goal.invariant-loop-arrival
invariant-loop-arrival l =
    put_places (flat_map (places_at l.rows l.others) (drop l.arrival-index l.arrival-items)) l.made ≡ put_places (flat_map (places_at l.rows l.others) l.arrival-items) l.initial.made
