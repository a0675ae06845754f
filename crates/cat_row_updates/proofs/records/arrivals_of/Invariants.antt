use Rattle.std.proofs.Common.{◌≡◌, [], drop}
use Rattle.std.specs.List.{flat_map}
use Rattle.cat_collections.specs.Table.{puts, text_cmp}
use Rattle.cat_row_updates.specs.Places.{noted_at}
use Rattle.cat_row_updates.proofs.records.arrivals_of.Given as goal

-- the rows that are left make of the arrival numbers so far those of all
abbrev pub invariant-loop-arrival : goal.invariant-loop-arrival
invariant-loop-arrival l =
    puts text_cmp (flat_map (noted_at l.rows) (drop l.arrival-index l.arrival-items)) l.arrivals ≡ puts text_cmp (flat_map (noted_at l.rows) l.arrival-items) []
