use Rattle.std.proofs.Common.{◌≡◌, map, take}
use Rattle.cat_collections.specs.Table.{get}
use Rattle.cat_row_updates.specs.Places.{offer_with}
use Rattle.cat_row_updates.proofs.records.offer_rows.Given as goal

-- so far stand the offers so far
abbrev pub invariant-loop-reference : goal.invariant-loop-reference
invariant-loop-reference l = l.rows.items ≡ map (offer_with (get l.arrivals)) (take l.reference-index l.offers)
