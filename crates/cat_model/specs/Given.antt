-- What a mutation gives to a provider.
use Rattle.std.specs.Prelude.{codes, true, false, List, [], ◌++◌, map}
use Rattle.std.specs.declared.option.Option.{Option}
use Rattle.std.specs.declared.option.Option.TheVariants.{None, Some}
pub use Rattle.cat_types.specs.declared.input.Item.{Item}
pub use Rattle.cat_types.specs.declared.input.Mutation.{Mutation}
use Rattle.cat_types.specs.declared.input.Mutation.TheVariants.{Full, Delta}
use Rattle.cat_collections.specs.Table.{Text}
use Rattle.cat_model.specs.Catalogue.{Ref, Offered, Offers}
pub use Rattle.cat_model.specs.declared.types.Given.{Given}

-- the key of a provider's item that names none
abbrev pub provider_key : Text → Text
provider_key provider = codes "provider:" ++ provider

-- an item's key, or the provider's key where it names none
abbrev pub key_or : Text → Option Text → Text
key_or provider None = provider_key provider
key_or provider (Some key) = key

-- what a provider offers by an item
abbrev pub offered_by : Text → Item → Ref × Offered
offered_by provider item = (item.reference, record { key = key_or provider item.key; tree = item.tree })

-- what a provider offers by its items
abbrev pub offers_of : Text → List Item → Offers
offers_of provider items = map (offered_by provider) items

-- what a mutation gives to a provider: its serial, whether its items are all, its items with their keys, and what goes
abbrev pub given : Text → Mutation → Given
given provider (Full serial items) = record { serial = serial; full = true; items = offers_of provider items; removed = [] }
given provider (Delta serial added removed) = record { serial = serial; full = false; items = offers_of provider added; removed = removed }
