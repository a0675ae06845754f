use Rattle.std.proofs.Common.{◌≡◌, take, drop, map}
use Rattle.cat_tree.specs.View.{data_of}
use Rattle.cat_row_format.specs.Spelled.{OffersNamed}
use Rattle.cat_row_format.specs.Text.{offer_data}
use Rattle.cat_row_format.proofs.tree.offers_tree.Given as goal

-- the trees so far are those of the offers so far, which have references
abbrev pub invariant-loop-offer : goal.invariant-loop-offer
invariant-loop-offer l =
    (map data_of l.items.items ≡ map offer_data (take l.offer-index l.offers))
    × (OffersNamed (drop l.offer-index l.offers) → OffersNamed l.offers)
