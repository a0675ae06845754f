use Rattle.std.proofs.Common.{◌∙◌}
use Rattle.std.proofs.lemmas.Result.{IfOk-weaker}
use Rattle.cat_plan.specs.Linked.{linked_from}
use Rattle.cat_plan.proofs.Partly.{parts_are}
use Rattle.cat_plan.proofs.linked_parts.present_parts.Goals as goal

pub returns : goal.returns
returns g c =
    IfOk-weaker c.parts_of.result _ _
    (λ p e. e ∙ ((λ i. linked_from g.L.Layers.rules c.args.links.now c.args.reference.now (c.get.ensures i) (c.get-2.ensures i))
    ∙ parts_are g.L.Layers.rules c.args.links.now c.args.m.now c.requires.linked c.requires.recorded c.args.reference.now))
    c.parts_of.ensures
