use Rattle.std.proofs.Common.{◌∙◌}
use Rattle.cat_model.specs.Step.Event.{TakeAt}
use Rattle.cat_events.specs.Stepped.{come_to}
use Rattle.cat_settle.proofs.Called.{noted_is}
use Rattle.cat_settle.proofs.turn.taken.Goals as goal

pub returns : goal.returns
returns g c =
    let p = c.args.p.now in
    c.lease_noted.ensures c.args.reference.now c.args.now
    ∙ noted_is (TakeAt c.args.reference.now c.args.now) (come_to g.L.Layers.rules c.args.settings.now (TakeAt c.args.reference.now c.args.now) p.state) p c.take_at-came.result c.take_at-came.new.state c.take_at-came.ensures.fault c.take_at-came.ensures.state
