-- What is above a row, and whether a chain of rows reaches a provider.
use Rattle.std.specs.Prelude.{ℕ, zero, suc, Bool, false}
use Rattle.std.specs.declared.option.Option.{Option}
use Rattle.std.specs.declared.option.Option.TheVariants.{None, Some}
use Rattle.cat_collections.specs.Table.{get}
use Rattle.cat_model.specs.Catalogue.{Holders, Rows, climbs, climbs_row, row_at}
use Rattle.cat_model.specs.declared.types.Origin.{Origin}
use Rattle.cat_model.specs.declared.types.Origin.TheVariants.{Provider, Entity}
use Rattle.cat_model.specs.declared.types.Row.{Row}
use Rattle.cat_state_check.specs.declared.holders.Above.{Above}
use Rattle.cat_state_check.specs.declared.holders.Above.TheVariants.{Giver, Holder, Nothing}

-- what is above an emitter that this row holds, if any does
abbrev pub above_holder : Option ℕ → Above
above_holder None = Nothing
above_holder (Some a) = Holder a

-- what is above a row of this origin
abbrev pub above_origin : Holders → Origin → Above
above_origin holders (Provider p) = Giver
above_origin holders (Entity e) = above_holder (get holders e)

-- what is above a row, if it is there
abbrev pub above_row : Holders → Option Row → Above
above_row holders None = Nothing
above_row holders (Some row) = above_origin holders row.origin

-- whether the chain of origins from the row with this arrival reaches a provider within n steps
abbrev pub climbs_from : Rows → Holders → ℕ → ℕ → Bool
climbs_from rows holders zero a = false
climbs_from rows holders (suc n) a = climbs_row (climbs rows holders n) (row_at rows a)
