use Rattle.std.proofs.Common.{◌≡◌, ◌++◌, drop}
use Rattle.std.specs.List.{flat_map}
use Rattle.cat_row_reader.specs.Standing.{offer_in}
use Rattle.cat_row_reader.proofs.state.output_in.Given as goal

-- the offers so far, and those that are left, are all
abbrev pub invariant-loop-offer : goal.invariant-loop-offer
invariant-loop-offer l = l.offers.items ++ flat_map (offer_in l.trees) (drop l.offer-index l.offer-items) ≡ flat_map (offer_in l.trees) l.offer-items
