-- The references of what a provider offers.
use Rattle.std.proofs.Common.{◌≡◌, List, [], ◌∷◌, map, refl, ap}
use Rattle.cat_types.specs.declared.input.Item.{Item}
use Rattle.cat_collections.specs.Table.{Text, keys}
use Rattle.cat_model.specs.Given.{offers_of}

pub offered_refs : (provider : Text) (items : List Item) → keys (offers_of provider items) ≡ map (λ item. item.reference) items
offered_refs provider [] = refl
offered_refs provider (item ∷ items) = ap (λ refs. item.reference ∷ refs) (offered_refs provider items)
