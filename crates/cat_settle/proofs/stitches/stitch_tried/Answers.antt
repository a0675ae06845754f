use Rattle.std.proofs.Common.{[], sym, ◌∙◌}
use Rattle.cat_model.specs.Step.Event.{PutStitch}
use Rattle.cat_settle.proofs.Called.{called_came, called_goes, called_within}
use Rattle.cat_settle.proofs.Gathering.{stitch_still, within_itself}
use Rattle.cat_settle.proofs.Parts.{rests, stopped_done}
use Rattle.cat_settle.proofs.stitches.stitch_tried.Goals as goal

pub returns-then-is_some-clause-came : goal.returns-then-is_some-clause-came
returns-then-is_some-clause-came g c = stopped_done g.L.Layers.rules c.args.settings.now (PutStitch c.args.order.now) c.args.p.now (sym c.is_some.ensures ∙ c.if-is_some.true)

pub returns-then-is_some-clause-goes : goal.returns-then-is_some-clause-goes
returns-then-is_some-clause-goes g c = rests g.L.Layers.rules c.args.p.now

pub returns-clause-came : goal.returns-clause-came
returns-clause-came g c = called_came g.L.Layers.rules c.args.settings.now (PutStitch c.args.order.now) c.args.p.now c.stitched.new.p (sym c.is_some.ensures ∙ c.if-is_some.false) c.stitched.result c.stitched.ensures.moved

pub returns-clause-goes : goal.returns-clause-goes
returns-clause-goes g c = called_goes g.L.Layers.rules c.args.settings.now (PutStitch c.args.order.now) c.args.p.now c.stitched.new.p (sym c.is_some.ensures ∙ c.if-is_some.false) c.stitched.result c.stitched.ensures.moved

pub returns-clause-within : goal.returns-clause-within
returns-clause-within g c = λ h. called_within g.L.Layers.rules c.args.settings.now (PutStitch c.args.order.now) c.args.p.now c.stitched.new.p (sym c.is_some.ensures ∙ c.if-is_some.false) c.stitched.result c.args.most c.if-p-most.false c.stitched.ensures.moved

pub returns-then-is_some-clause-still : goal.returns-then-is_some-clause-still
returns-then-is_some-clause-still g c = within_itself [] c.args.p.now.state

pub returns-then-p-most-clause-still : goal.returns-then-p-most-clause-still
returns-then-p-most-clause-still g c = within_itself [] c.args.p.now.state

pub returns-clause-still : goal.returns-clause-still
returns-clause-still g c = stitch_still g.L.Layers.rules c.args.settings.now c.args.p.now c.stitched.new.p c.args.order.now c.stitched.result c.stitched.ensures.moved
