use Rattle.std.proofs.Common.{◌≡◌, drop}
use Rattle.std.specs.List.{list_all}
use Rattle.cat_store.specs.Tells.{is_narrow_offer}
use Rattle.cat_store.proofs.tells.are_narrow_offers.Given as goal

abbrev pub invariant-loop-offered : goal.invariant-loop-offered
invariant-loop-offered l = list_all is_narrow_offer (drop l.offered-index l.offers) ≡ list_all is_narrow_offer l.offers
