use Rattle.cat_model.specs.declared.types.OrphanRule.TheVariants.{Keep}
use Rattle.cat_model.specs.declared.types.Settings.{Settings}
use Rattle.cat_laws.proofs.Forms.{row_form, work_form, parts_form}
use Rattle.cat_layers.specs.Layered.{layered}
use Rattle.cat_layers.proofs.Forms.{offer_is, entity_is}
use Rattle.cat_form_laws.specs.Real.{real_forms}
use Rattle.cat_form_laws.proofs.law.forms_come_to.Goals as goal

no_settings : Settings
no_settings = record { interval = 1; lease = 1; input_limit = 0; orphans = Keep }

pub returns-clause-names : goal.returns-clause-names
returns-clause-names c m p x h e = (h.providers p x e).name

pub returns-clause-serials : goal.returns-clause-serials
returns-clause-serials c m p x h e = let source = h.providers p x e in (source.begun, source.small)

pub returns-clause-shelf : goal.returns-clause-shelf
returns-clause-shelf c m name text h e = h.shelf name text e

pub returns-clause-items : goal.returns-clause-items
returns-clause-items c m p x r y h e f = offer_is y r ((h.providers p x e).items r y f)

pub returns-clause-rows : goal.returns-clause-rows
returns-clause-rows c m a row sound h e = offer_is row.offered row.reference (row_form layered real_forms no_settings m sound h a row e)

pub returns-clause-offers : goal.returns-clause-offers
returns-clause-offers c m r x output q y h e o f = offer_is y q ((h.outputs r x output e o).offers q y f)

pub returns-clause-entities : goal.returns-clause-entities
returns-clause-entities c m r x output h e o = entity_is output.entity r (h.outputs r x output e o).entity

pub returns-clause-works : goal.returns-clause-works
returns-clause-works c m r w sound h e = work_form layered real_forms no_settings m sound h r w e

pub returns-clause-parts : goal.returns-clause-parts
returns-clause-parts c m r p sound small h e =
    let are = parts_form layered real_forms no_settings m sound h small r p e in
    (entity_is p.entity r are.entity, are.number)

pub returns-clause-orphans : goal.returns-clause-orphans
returns-clause-orphans c m r x h e = entity_is x.entity r (h.orphans r x e)
