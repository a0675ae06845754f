use Rattle.cat_model.specs.Step.Event.{Forget}
use Rattle.cat_core.proofs.Calls.{ledger_kept, reply_is, state_is}
use Rattle.cat_core.proofs.catalogue.Catalogue.forget.Goals as goal

pub invariant_of-self : goal.invariant_of-self
invariant_of-self g c =
    ledger_kept g.L.Layers.rules (Forget c.args.reference.now) c.self.inside.ledger c.args.self.now c.self.view_is c.forget-came.result c.forget-came.new.state c.forget-came.new.links c.forget-came.ensures c.self.inside.links c.self.invariant

pub returns-clause-state : goal.returns-clause-state
returns-clause-state g c =
    state_is g.L.Layers.rules (Forget c.args.reference.now) c.self.inside.ledger c.args.self.now c.self.view_is c.forget-came.result c.forget-came.new.state c.forget-came.new.links c.forget-came.ensures c.answered.result c.answered.ensures

pub returns-clause-reply : goal.returns-clause-reply
returns-clause-reply g c =
    reply_is g.L.Layers.rules (Forget c.args.reference.now) c.self.inside.ledger c.args.self.now c.self.view_is c.forget-came.result c.forget-came.new.state c.forget-came.new.links c.forget-came.ensures c.answered.result c.answered.ensures
