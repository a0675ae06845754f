-- Events that change one record alone, and orders that are present.
use Rattle.std.specs.Prelude.{Bool, true, false, ◌&&◌, [], ◌∷◌}
use Rattle.std.specs.declared.option.Option.{Option}
use Rattle.std.specs.declared.option.Option.TheVariants.{None, Some}
use Rattle.cat_tree.specs.Same.{is_same}
use Rattle.cat_collections.specs.Table.{Map, same_text}
use Rattle.cat_types.specs.declared.input.Offered.{Offered}
use Rattle.cat_types.specs.declared.work.Outcome.{Outcome}
use Rattle.cat_types.specs.declared.work.Output.{Output}
use Rattle.cat_types.specs.declared.work.Outcome.TheVariants.{Good, Bad}
use Rattle.cat_model.specs.declared.types.Order.{Order}
use Rattle.cat_model.specs.declared.types.Record.{Record}
use Rattle.cat_model.specs.declared.types.State.{State}
use Rattle.cat_model.specs.Catalogue.{Rules}
use Rattle.cat_model.specs.Step.{is_present}

-- whether there is a record, and this is the order of its lease
abbrev pub is_present_order : Rules → State → Order → Option Record → Bool
is_present_order rules m order None = false
is_present_order rules m order (Some x) = is_present rules m order x

-- ---- results that offer what was offered

-- whether this is offered again just as it was
abbrev pub same_offer : Option Offered → Offered → Bool
same_offer None y = false
same_offer (Some x) y = same_text x.key y.key && is_same x.tree y.tree

-- whether the offers are equal one by one
abbrev pub same_offers : Map Offered → Map Offered → Bool
same_offers [] [] = true
same_offers [] (e ∷ es) = false
same_offers (d ∷ ds) [] = false
same_offers (d ∷ ds) (e ∷ es) = (same_text d.0 e.0 && same_offer (Some d.1) e.1) && same_offers ds es

-- what an output offers; where none is kept there is nothing
abbrev pub output_offers : Option Output → Map Offered
output_offers None = []
output_offers (Some output) = output.offers

-- what a record offers by its kept output
abbrev pub kept_offers : Option Record → Map Offered
kept_offers None = []
kept_offers (Some x) = output_offers x.output

-- whether a result offers just what its record does, and so leaves all rows as they are: a bad one changes no offers
abbrev pub offers_again : Option Record → Outcome → Bool
offers_again kept (Good output issues) = same_offers (kept_offers kept) output.offers
offers_again kept (Bad issues) = true
