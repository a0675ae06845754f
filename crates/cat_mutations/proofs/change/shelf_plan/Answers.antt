use Rattle.std.proofs.Common.{sym, subst}
use Rattle.cat_plan.specs.Linked.{AreLinked}
use Rattle.cat_events.specs.Shelf.{with_shelf}
use Rattle.cat_events.proofs.Owned.{shelf_owned, shelf_reached}
use Rattle.cat_mutations.proofs.change.shelf_plan.Goals as goal

pub planned-requires-clause-reach : goal.planned-requires-clause-reach
planned-requires-clause-reach g c =
    shelf_reached g.L.Layers.rules c.args.m.now c.requires.steady.sound c.args.shelf c.in_ok-touched.touched c.args.name.now c.requires.one c.in_ok-touched.ensures

pub returns-clause-state : goal.returns-clause-state
returns-clause-state g c = c.in_ok-plan.ensures.state (with_shelf c.args.shelf c.args.m.now) (shelf_owned g.L.Layers.rules c.args.m.now c.requires.steady.sound c.args.shelf c.in_ok-touched.touched)

pub returns-clause-linked : goal.returns-clause-linked
returns-clause-linked g c =
    let n = with_shelf c.args.shelf c.args.m.now in
    let owned = shelf_owned g.L.Layers.rules c.args.m.now c.requires.steady.sound c.args.shelf c.in_ok-touched.touched in
    subst (AreLinked g.L.Layers.rules c.in_ok-plan.plan.value.following.links.after) (sym (c.in_ok-plan.ensures.state n owned)) (c.in_ok-plan.ensures.linked n owned)
