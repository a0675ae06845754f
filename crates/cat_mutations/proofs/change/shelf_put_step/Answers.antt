use Rattle.std.proofs.Common.{◌≡◌, ap, sym, subst}
use Rattle.cat_model.specs.Step.{or_else, spent}
use Rattle.cat_events.specs.Coming.{seen}
use Rattle.cat_events.specs.Planned.{planned}
use Rattle.cat_events.specs.Shelf.{DifferAt, with_shelf}
use Rattle.cat_events.specs.Stepped.{over_limit}
use Rattle.cat_mutations.proofs.Shelves.{put_differs}
use Rattle.cat_mutations.proofs.Steps.{put_steps}
use Rattle.cat_mutations.proofs.change.shelf_put_step.Goals as goal

pub shelf_plan-requires-clause-one : goal.shelf_plan-requires-clause-one
shelf_plan-requires-clause-one g c = subst (DifferAt c.args.name.now c.args.m.now.shelf) (sym c.in_ok-shelf.ensures) (put_differs c.args.name.now c.args.text.now c.args.m.now.shelf)

pub returns-clause-come : goal.returns-clause-come
returns-clause-come g c =
    let m = c.args.m.now in
    let refused = subst (λ p. c.in_ok-fault.fault ≡ or_else (over_limit g.L.Layers.rules c.args.settings.now (planned p m)) (spent (planned p m))) c.deref.ensures c.in_ok-fault.ensures in
    put_steps g.L.Layers.rules c.args.settings.now c.args.name.now c.args.text.now m (with_shelf c.in_ok-shelf.shelf m) (planned c.in_ok-plan.plan.value m) c.in_ok-fault.fault (seen c.unless-o.result m)
    (ap (λ t. with_shelf t m) c.in_ok-shelf.ensures) c.in_ok-plan.ensures.state refused (c.unless-o.ensures.seen m)

pub returns-clause-linked : goal.returns-clause-linked
returns-clause-linked g c = c.unless-o.ensures.linked g.L.Layers.rules c.args.m.now c.in_ok-plan.ensures.linked
