use Rattle.std.proofs.Common.{◌≡◌, sym, ap, ◌∙◌, true≢false}
use Rattle.std.specs.declared.option.Option.TheVariants.{None}
use Rattle.std.specs.Option.{option_map}
use Rattle.cat_collections.specs.Table.{get}
use Rattle.cat_model.specs.declared.types.Order.{Order}
use Rattle.cat_model.specs.Step.Event.{Finish}
use Rattle.cat_events.specs.Again.{is_present_order}
use Rattle.cat_events.proofs.Comes.{came_in}
use Rattle.cat_events.proofs.finish.finish_present.Goals as goal

pub returns-in-None : goal.returns-in-None
returns-in-None g c =
    let order = c.args.done.now.order.now in
    let m = c.args.state.now in
    let none : get m.records order.reference ≡ None =
    ap (λ (o : Order). get m.records o.reference) (sym c.order.ensures) ∙ (sym c.get.ensures ∙ ap (option_map (λ x. x.now)) c.in-None.is) in
    absurd (true≢false (sym c.requires.present ∙ ap (is_present_order g.L.Layers.rules m order) none))

pub finish_step-requires-clause-there : goal.finish_step-requires-clause-there
finish_step-requires-clause-there g c =
    let m = c.args.state.now in
    ap (λ (o : Order). get m.records o.reference) (sym c.order.ensures) ∙ (sym c.get.ensures ∙ ap (option_map (λ x. x.now)) c.in-Some.is)

pub finish_step-requires-clause-present : goal.finish_step-requires-clause-present
finish_step-requires-clause-present g c =
    let order = c.args.done.now.order.now in
    let m = c.args.state.now in
    let found = ap (λ (o : Order). get m.records o.reference) (sym c.order.ensures) ∙ (sym c.get.ensures ∙ ap (option_map (λ x. x.now)) c.in-Some.is) in
    sym (ap (is_present_order g.L.Layers.rules m order) found) ∙ c.requires.present

pub returns-in_ok-step-in-Some : goal.returns-in_ok-step-in-Some
returns-in_ok-step-in-Some g c =
    let order = c.args.done.now.order.now in
    came_in g.L.Layers.rules c.args.settings.now (Finish order c.args.now) c.args.state.now c.args.links.now c.take_in.new.links c.in_ok-step-in-Some.step c.take_in.result c.take_in.new.state
    c.requires.steady c.in_ok-step-in-Some.ensures.come c.in_ok-step-in-Some.ensures.linked c.take_in.ensures.state c.take_in.ensures.links c.take_in.ensures.fault
