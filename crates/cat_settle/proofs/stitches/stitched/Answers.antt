use Rattle.std.proofs.Common.{ap, ◌∙◌}
use Rattle.cat_model.specs.Step.Event.{PutStitch}
use Rattle.cat_events.specs.Stepped.{come_to}
use Rattle.cat_settle.specs.Part.{moved}
use Rattle.cat_settle.proofs.Called.{noted_is, noted_steady}
use Rattle.cat_settle.proofs.stitches.stitched.Goals as goal

pub returns-in-Ok-put_stitch-clause-moved : goal.returns-in-Ok-put_stitch-clause-moved
returns-in-Ok-put_stitch-clause-moved g c =
    let p = c.args.p.now in
    c.stitch_noted.ensures c.args.order.now
    ∙ (noted_is (PutStitch c.args.order.now) (come_to g.L.Layers.rules c.args.settings.now (PutStitch c.in-Ok.made.order.now) p.state) p c.in-Ok-put_stitch.came c.put_stitch.new.state c.in-Ok-put_stitch.ensures.fault c.in-Ok-put_stitch.ensures.state
    ∙ ap (λ x. moved (PutStitch c.args.order.now) (come_to g.L.Layers.rules c.args.settings.now (PutStitch x) p.state) p) c.in-Ok.ensures)

pub returns-in-Ok-put_stitch-clause-steady : goal.returns-in-Ok-put_stitch-clause-steady
returns-in-Ok-put_stitch-clause-steady g c =
    noted_steady g.L.Layers.rules c.args.links.now (PutStitch c.args.order.now) c.in-Ok-put_stitch.came c.args.p.now c.stitch_noted.new.p c.put_stitch.new.state (c.stitch_noted.ensures c.args.order.now) c.put_stitch.ensures.steady
