use Rattle.std.proofs.Common.{refl, sym, ◌∙◌}
use Rattle.cat_model.specs.Step.{forgotten}
use Rattle.cat_events.specs.Coming.{seen}
use Rattle.cat_events.specs.Planned.{planned}
use Rattle.cat_mutations.proofs.Steps.{forget_steps}
use Rattle.cat_mutations.proofs.change.forget_step.Goals as goal

pub returns-in_ok-plan-clause-come : goal.returns-in_ok-plan-clause-come
returns-in_ok-plan-clause-come g c =
    let m = c.args.m.now in
    forget_steps g.L.Layers.rules c.args.settings.now c.args.reference.now m (forgotten c.args.reference.now m) (planned c.in_ok-plan.plan.value m) (seen c.unless_spent-o.result m) (sym c.is_known.ensures ∙ c.if-is_known.true)
    refl c.in_ok-plan.ensures.state c.unless_spent-o.ensures.seen

pub returns-in_ok-plan-clause-linked : goal.returns-in_ok-plan-clause-linked
returns-in_ok-plan-clause-linked g c = c.unless_spent-o.ensures.linked g.L.Layers.rules c.in_ok-plan.ensures.linked
