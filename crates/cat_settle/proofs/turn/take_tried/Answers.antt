use Rattle.std.proofs.Common.{[], refl, sym, ◌∙◌}
use Rattle.cat_model.specs.Step.Event.{TakeAt}
use Rattle.cat_events.specs.Stepped.{come_to}
use Rattle.cat_settle.proofs.Called.{taken_steady}
use Rattle.cat_settle.proofs.Gathering.{take_still, within_itself}
use Rattle.cat_settle.proofs.Parts.{event_done, event_goes, event_within, rests, stopped_done}
use Rattle.cat_settle.proofs.turn.take_tried.Goals as goal

pub returns-then-is_some-clause-came : goal.returns-then-is_some-clause-came
returns-then-is_some-clause-came g c = stopped_done g.L.Layers.rules c.args.settings.now (TakeAt c.args.reference.now c.args.now) c.args.p.now (sym c.is_some.ensures ∙ c.if-is_some.true)

pub returns-then-is_some-clause-goes : goal.returns-then-is_some-clause-goes
returns-then-is_some-clause-goes g c = rests g.L.Layers.rules c.args.p.now

pub returns-clause-came : goal.returns-clause-came
returns-clause-came g c = event_done g.L.Layers.rules c.args.settings.now (TakeAt c.args.reference.now c.args.now) c.args.p.now (come_to g.L.Layers.rules c.args.settings.now (TakeAt c.args.reference.now c.args.now) c.args.p.now.state) c.taken.new.p refl c.taken.ensures (sym c.is_some.ensures ∙ c.if-is_some.false)

pub returns-clause-steady : goal.returns-clause-steady
returns-clause-steady g c = λ links h. taken_steady g.L.Layers.rules c.args.settings.now links c.args.reference.now c.args.now c.args.p.now c.taken.new.p c.taken.ensures h

pub returns-clause-goes : goal.returns-clause-goes
returns-clause-goes g c = event_goes g.L.Layers.rules c.args.settings.now (TakeAt c.args.reference.now c.args.now) c.args.p.now (come_to g.L.Layers.rules c.args.settings.now (TakeAt c.args.reference.now c.args.now) c.args.p.now.state) c.taken.new.p refl c.taken.ensures (sym c.is_some.ensures ∙ c.if-is_some.false)

pub returns-clause-within : goal.returns-clause-within
returns-clause-within g c = λ h. event_within g.L.Layers.rules c.args.settings.now (TakeAt c.args.reference.now c.args.now) c.args.p.now (come_to g.L.Layers.rules c.args.settings.now (TakeAt c.args.reference.now c.args.now) c.args.p.now.state) c.taken.new.p refl c.taken.ensures (sym c.is_some.ensures ∙ c.if-is_some.false) c.args.most c.if-p-most.false

pub returns-then-is_some-clause-still : goal.returns-then-is_some-clause-still
returns-then-is_some-clause-still g c = within_itself [] c.args.p.now.state

pub returns-then-p-most-clause-still : goal.returns-then-p-most-clause-still
returns-then-p-most-clause-still g c = within_itself [] c.args.p.now.state

pub returns-clause-still : goal.returns-clause-still
returns-clause-still g c = take_still g.L.Layers.rules c.args.settings.now c.args.p.now c.taken.new.p c.args.reference.now c.args.now c.taken.ensures
