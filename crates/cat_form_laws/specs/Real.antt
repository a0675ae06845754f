-- The forms of what the real catalogue keeps, as the abstract catalogue takes them.
use Rattle.cat_model.specs.Formed.{FormRules}
use Rattle.cat_layers.specs.Layered.{layered}
use Rattle.cat_types.specs.Names.{is_name, is_shelf_name}
use Rattle.cat_layers.specs.Forms.{is_item, is_entity}
use Rattle.cat_layers.proofs.Results.{item_gives_entity, item_gives_items}

-- the tests of offers, entities and names of the real lower layers, and that their results keep them
abbrev pub real_forms : FormRules layered
real_forms = record {
  is_item = is_item;
  is_entity = is_entity;
  is_provider = is_name;
  is_shelf_name = is_shelf_name;
  gives_entity = item_gives_entity;
  gives_items = item_gives_items;
}
