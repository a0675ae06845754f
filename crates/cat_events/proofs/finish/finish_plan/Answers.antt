use Rattle.std.proofs.Common.{is_some, sym, ap, subst, ◌∙◌}
use Rattle.std.specs.declared.option.Option.TheVariants.{Some}
use Rattle.cat_plan.specs.Linked.{AreLinked}
use Rattle.cat_plan.specs.declared.change.Own.{Own}
use Rattle.cat_model.specs.declared.types.Order.{Order}
use Rattle.cat_model.specs.Catalogue.{frame, held}
use Rattle.cat_model.proofs.Changed.{sound_ready}
use Rattle.cat_model.specs.Step.{finished_state}
use Rattle.cat_events.proofs.Owned.{result_owned}
use Rattle.cat_events.proofs.finish.finish_plan.Goals as goal

pub own_change-requires-clause-ready : goal.own_change-requires-clause-ready
own_change-requires-clause-ready g c = sound_ready g.L.Layers.rules c.args.m.now c.requires.steady.sound

pub own_change-requires-clause-held : goal.own_change-requires-clause-held
own_change-requires-clause-held g c =
    let m = c.args.m.now in
    let same = c.in_ok-duplicate.ensures ∙ ap (λ (o : Order). o.reference) c.order.ensures in
    ap (held m.holders) same ∙ sym (c.requires.steady.sound.records c.args.done.now.order.now.reference) ∙ ap is_some c.requires.there

pub planned-requires-clause-reach : goal.planned-requires-clause-reach
planned-requires-clause-reach g c =
    let own : Own = record { reference = c.in_ok-duplicate.field-0; kept = Some c.in_ok-record_finished.field-0 } in
    let same = c.in_ok-duplicate.ensures ∙ ap (λ (o : Order). o.reference) c.order.ensures in
    (result_owned c.args.settings.now c.args.done.now.order.now.reference c.args.now c.args.kept.now c.outcome-outcome.result.now c.args.m.now own same (ap Some c.in_ok-record_finished.ensures)
    g.L.Layers.rules c.leaving.result c.in_ok-change.change c.requires.steady.sound c.requires.there c.in_ok-change.ensures).1

pub returns-clause-state : goal.returns-clause-state
returns-clause-state g c =
    let rules = g.L.Layers.rules in
    let m = c.args.m.now in
    let r = c.args.done.now.order.now.reference in
    let own : Own = record { reference = c.in_ok-duplicate.field-0; kept = Some c.in_ok-record_finished.field-0 } in
    let same = c.in_ok-duplicate.ensures ∙ ap (λ (o : Order). o.reference) c.order.ensures in
    let facts =
    result_owned c.args.settings.now r c.args.now c.args.kept.now c.outcome-outcome.result.now m own same (ap Some c.in_ok-record_finished.ensures)
    rules c.leaving.result c.in_ok-change.change c.requires.steady.sound c.requires.there c.in_ok-change.ensures in
    c.in_ok-plan.ensures.state (finished_state c.args.settings.now r c.args.now c.args.kept.now c.outcome-outcome.result.now m) facts.0
    ∙ (λ i. frame rules ((facts.2 ∙ c.leaving.ensures) i) m (finished_state c.args.settings.now r c.args.now c.args.kept.now (c.outcome-outcome.ensures i) m))

pub returns-clause-linked : goal.returns-clause-linked
returns-clause-linked g c =
    let rules = g.L.Layers.rules in
    let m = c.args.m.now in
    let r = c.args.done.now.order.now.reference in
    let n = finished_state c.args.settings.now r c.args.now c.args.kept.now c.outcome-outcome.result.now m in
    let own : Own = record { reference = c.in_ok-duplicate.field-0; kept = Some c.in_ok-record_finished.field-0 } in
    let same = c.in_ok-duplicate.ensures ∙ ap (λ (o : Order). o.reference) c.order.ensures in
    let facts =
    result_owned c.args.settings.now r c.args.now c.args.kept.now c.outcome-outcome.result.now m own same (ap Some c.in_ok-record_finished.ensures)
    rules c.leaving.result c.in_ok-change.change c.requires.steady.sound c.requires.there c.in_ok-change.ensures in
    subst (AreLinked rules c.in_ok-plan.plan.value.following.links.after) (sym (c.in_ok-plan.ensures.state n facts.0)) (c.in_ok-plan.ensures.linked n facts.0)
