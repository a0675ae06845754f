use Rattle.std.proofs.Common.{◌≡◌, drop}
use Rattle.std.specs.List.{list_all}
use Rattle.cat_collections.specs.Table.{find, text_cmp}
use Rattle.cat_row_faults.specs.Rules.{is_offer_among}
use Rattle.cat_row_faults.specs.Told.{asked, is_first}
use Rattle.cat_row_faults.proofs.rules.are_right_offers.Given as goal

abbrev pub invariant-loop-offer : goal.invariant-loop-offer
invariant-loop-offer l =
    list_all (is_offer_among (asked l.told) (λ r. is_first (find text_cmp r l.noted))) (drop l.offer-index l.offers)
    ≡ list_all (is_offer_among (asked l.told) (λ r. is_first (find text_cmp r l.noted))) l.offers
