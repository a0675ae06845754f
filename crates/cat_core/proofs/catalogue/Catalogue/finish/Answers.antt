use Rattle.std.proofs.Common.{ap, ◌∙◌}
use Rattle.cat_model.specs.Reply.{finished}
use Rattle.cat_model.specs.Step.Event.{Finish}
use Rattle.cat_core.proofs.Calls.{ledger_kept, reply_with, state_with}
use Rattle.cat_core.proofs.catalogue.Catalogue.finish.Goals as goal

pub finish-came-requires-clause-moments : goal.finish-came-requires-clause-moments
finish-came-requires-clause-moments g c = record { now_below = c.requires; interval_below = c.self.invariant.settings.interval_to; lease_below = c.self.invariant.settings.lease_to }

pub invariant_of-self : goal.invariant_of-self
invariant_of-self g c =
    ledger_kept g.L.Layers.rules (Finish c.args.done.now.order.now c.args.now) c.self.inside.ledger c.args.self.now c.self.view_is c.finish-came.result c.finish-came.new.state c.finish-came.new.links c.finish-came.ensures c.self.inside.links c.self.invariant

pub returns-in-Ok-clause-state : goal.returns-in-Ok-clause-state
returns-in-Ok-clause-state g c =
    state_with g.L.Layers.rules (Finish c.args.done.now.order.now c.args.now) c.self.inside.ledger c.args.self.now c.self.view_is c.finish-came.result c.finish-came.new.state c.finish-came.new.links c.finish-came.ensures c.answered.result c.answered.ensures c.with_reply.result c.in-Ok.reply c.with_reply.ensures

pub returns-in-Ok-clause-reply : goal.returns-in-Ok-clause-reply
returns-in-Ok-clause-reply g c =
    reply_with g.L.Layers.rules (Finish c.args.done.now.order.now c.args.now) c.self.inside.ledger c.args.self.now c.self.view_is c.finish-came.result c.finish-came.new.state c.finish-came.new.links c.finish-came.ensures c.answered.result c.answered.ensures c.with_reply.result c.in-Ok.reply _ c.with_reply.ensures
    (c.in-Ok.ensures ∙ ap (λ l. finished g.L.Layers.rules c.args.done.now.order.now l.state) c.self.view_is)
