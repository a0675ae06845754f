use Rattle.std.proofs.Common.{◌≡◌, ◌++◌, drop, map}
use Rattle.cat_row_faults.specs.Told.{offer_given}
use Rattle.cat_row_faults.proofs.tellers.push_offers.Given as goal

-- what is put so far, and the offers that are left, are all
abbrev pub invariant-loop-offer : goal.invariant-loop-offer
invariant-loop-offer l = l.out.items ++ map (offer_given l.emitter) (drop l.offer-index l.offers) ≡ l.initial.out.items ++ map (offer_given l.emitter) l.offers
