use Rattle.std.proofs.Common.{◌≡◌, drop}
use Rattle.cat_row_updates.specs.Places.{item_among}
use Rattle.cat_row_updates.proofs.item.item_among.Given as goal

-- what is found among the rows that are left is what is found among all
abbrev pub invariant-loop-arrival : goal.invariant-loop-arrival
invariant-loop-arrival l = item_among l.rows l.provider l.reference (drop l.arrival-index l.arrivals) ≡ item_among l.rows l.provider l.reference l.arrivals
