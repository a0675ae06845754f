use Rattle.std.proofs.Common.{sym, ap, ◌∙◌, subst}
use Rattle.cat_events.specs.Coming.{seen}
use Rattle.cat_events.specs.Planned.{planned}
use Rattle.cat_events.specs.Shelf.{DifferAt, with_shelf}
use Rattle.cat_mutations.proofs.Shelves.{drop_differs}
use Rattle.cat_mutations.proofs.Steps.{drop_steps}
use Rattle.cat_mutations.proofs.change.shelf_drop_step.Goals as goal

pub shelf_plan-requires-clause-one : goal.shelf_plan-requires-clause-one
shelf_plan-requires-clause-one g c = subst (DifferAt c.args.name.now c.args.m.now.shelf) (sym c.in_ok-shelf.ensures) (drop_differs c.args.name.now c.args.m.now.shelf)

pub returns-in_ok-plan-clause-come : goal.returns-in_ok-plan-clause-come
returns-in_ok-plan-clause-come g c =
    let m = c.args.m.now in
    drop_steps g.L.Layers.rules c.args.settings.now c.args.name.now m (with_shelf c.in_ok-shelf.shelf m) (planned c.in_ok-plan.plan.value m) (seen c.unless_spent-o.result m) (sym c.has_name.ensures ∙ c.if-has_name.true)
    (ap (λ t. with_shelf t m) c.in_ok-shelf.ensures) c.in_ok-plan.ensures.state c.unless_spent-o.ensures.seen

pub returns-in_ok-plan-clause-linked : goal.returns-in_ok-plan-clause-linked
returns-in_ok-plan-clause-linked g c = c.unless_spent-o.ensures.linked g.L.Layers.rules c.in_ok-plan.ensures.linked
