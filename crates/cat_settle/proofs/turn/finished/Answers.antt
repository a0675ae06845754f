use Rattle.std.proofs.Common.{ap, ◌∙◌}
use Rattle.cat_model.specs.Step.Event.{Finish}
use Rattle.cat_events.specs.Stepped.{come_to}
use Rattle.cat_settle.specs.Part.{moved}
use Rattle.cat_settle.proofs.Called.{noted_is, noted_steady}
use Rattle.cat_settle.proofs.turn.finished.Goals as goal

pub returns-in-Ok-finish-clause-moved : goal.returns-in-Ok-finish-clause-moved
returns-in-Ok-finish-clause-moved g c =
    let p = c.args.p.now in
    c.finish_noted.ensures c.args.order.now c.args.now
    ∙ (noted_is (Finish c.args.order.now c.args.now) (come_to g.L.Layers.rules c.args.settings.now (Finish c.in-Ok.done.order.now c.args.now) p.state) p c.in-Ok-finish.came c.finish.new.state c.in-Ok-finish.ensures.fault c.in-Ok-finish.ensures.state
    ∙ ap (λ x. moved (Finish c.args.order.now c.args.now) (come_to g.L.Layers.rules c.args.settings.now (Finish x c.args.now) p.state) p) c.in-Ok.ensures)

pub returns-in-Ok-finish-clause-steady : goal.returns-in-Ok-finish-clause-steady
returns-in-Ok-finish-clause-steady g c =
    noted_steady g.L.Layers.rules c.finish.new.links (Finish c.args.order.now c.args.now) c.in-Ok-finish.came c.args.p.now c.finish_noted.new.p c.finish.new.state (c.finish_noted.ensures c.args.order.now c.args.now) c.finish.ensures.steady
