use Rattle.std.proofs.Common.{◌≡◌, take, map}
use Rattle.cat_stored_rows.specs.Stored.{offer_in}
use Rattle.cat_stored_rows.proofs.copies.offer_rows.Given as goal

-- so far stand the offers so far
abbrev pub invariant-loop-reference : goal.invariant-loop-reference
invariant-loop-reference l = l.rows.items ≡ map (offer_in l.version l.arrivals l.emitter) (take l.reference-index l.offers)
