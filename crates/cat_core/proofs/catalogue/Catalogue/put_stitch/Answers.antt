use Rattle.std.proofs.Common.{ap, ◌∙◌}
use Rattle.cat_model.specs.Reply.{placed}
use Rattle.cat_model.specs.Step.Event.{PutStitch}
use Rattle.cat_core.proofs.Calls.{ledger_kept, reply_with, state_with}
use Rattle.cat_core.proofs.catalogue.Catalogue.put_stitch.Goals as goal

pub invariant_of-self : goal.invariant_of-self
invariant_of-self g c =
    ledger_kept g.L.Layers.rules (PutStitch c.args.stitched.now.order.now) c.self.inside.ledger c.args.self.now c.self.view_is c.put_stitch-came.result c.put_stitch-came.new.state c.self.inside.links c.put_stitch-came.ensures c.self.inside.links c.self.invariant

pub returns-in-Ok-clause-state : goal.returns-in-Ok-clause-state
returns-in-Ok-clause-state g c =
    state_with g.L.Layers.rules (PutStitch c.args.stitched.now.order.now) c.self.inside.ledger c.args.self.now c.self.view_is c.put_stitch-came.result c.put_stitch-came.new.state c.self.inside.links c.put_stitch-came.ensures c.answered.result c.answered.ensures c.with_reply.result c.in-Ok.placed c.with_reply.ensures

pub returns-in-Ok-clause-reply : goal.returns-in-Ok-clause-reply
returns-in-Ok-clause-reply g c =
    reply_with g.L.Layers.rules (PutStitch c.args.stitched.now.order.now) c.self.inside.ledger c.args.self.now c.self.view_is c.put_stitch-came.result c.put_stitch-came.new.state c.self.inside.links c.put_stitch-came.ensures c.answered.result c.answered.ensures c.with_reply.result c.in-Ok.placed _ c.with_reply.ensures
    (c.in-Ok.ensures ∙ ap (λ l. placed g.L.Layers.rules c.args.stitched.now.order.now l.state) c.self.view_is)
