use Rattle.std.proofs.Common.{sym, ap, subst, ◌∙◌}
use Rattle.cat_plan.specs.Linked.{AreLinked}
use Rattle.cat_model.proofs.Changed.{sound_ready}
use Rattle.cat_model.specs.Step.{forgotten}
use Rattle.cat_claims.specs.declared.types.Claimed.{Claimed}
use Rattle.cat_events.proofs.Owned.{forget_owned, forget_reached}
use Rattle.cat_mutations.proofs.change.forget_plan.Goals as goal

pub claimed_by_entity-requires-clause-ready : goal.claimed_by_entity-requires-clause-ready
claimed_by_entity-requires-clause-ready g c = sound_ready g.L.Layers.rules c.args.m.now c.requires.sound

pub planned-requires-clause-reach : goal.planned-requires-clause-reach
planned-requires-clause-reach g c =
    forget_reached c.args.m.now c.args.reference.now c.in_ok-duplicate.field-0 c.in_ok-duplicate.ensures c.in_ok-claimed.claimed c.in_ok-claimed.ensures g.L.Layers.rules c.in_ok-touched.touched c.requires.sound (c.in_ok-touched.ensures ∙ ap (λ (k : Claimed). k.moved) c.deref.ensures)

pub returns-clause-state : goal.returns-clause-state
returns-clause-state g c =
    c.in_ok-plan.ensures.state (forgotten c.args.reference.now c.args.m.now)
    (forget_owned c.args.m.now c.args.reference.now c.in_ok-duplicate.field-0 c.in_ok-duplicate.ensures c.in_ok-claimed.claimed c.in_ok-claimed.ensures c.in_ok-touched.touched)

pub returns-clause-linked : goal.returns-clause-linked
returns-clause-linked g c =
    let n = forgotten c.args.reference.now c.args.m.now in
    let owned = forget_owned c.args.m.now c.args.reference.now c.in_ok-duplicate.field-0 c.in_ok-duplicate.ensures c.in_ok-claimed.claimed c.in_ok-claimed.ensures c.in_ok-touched.touched in
    subst (AreLinked g.L.Layers.rules c.in_ok-plan.plan.value.following.links.after) (sym (c.in_ok-plan.ensures.state n owned)) (c.in_ok-plan.ensures.linked n owned)
