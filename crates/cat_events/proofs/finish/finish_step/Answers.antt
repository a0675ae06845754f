use Rattle.std.proofs.Common.{sym, ap, ◌∙◌}
use Rattle.cat_model.specs.Step.{spent}
use Rattle.cat_events.specs.Stepped.{stepped}
use Rattle.cat_events.proofs.Resulted.{finish_comes}
use Rattle.cat_events.proofs.finish.finish_step.Goals as goal

pub returns-clause-come : goal.returns-clause-come
returns-clause-come g c =
    c.unless_spent-o.ensures.seen
    ∙ (ap (λ z. stepped (spent z) z) c.in_ok-plan.ensures.state
    ∙ sym (finish_comes g.L.Layers.rules c.args.settings.now c.args.done.now.order.now c.args.now c.args.m.now c.args.kept.now c.requires.there c.requires.present))

pub returns-clause-linked : goal.returns-clause-linked
returns-clause-linked g c = c.unless_spent-o.ensures.linked g.L.Layers.rules c.in_ok-plan.ensures.linked
