use Rattle.cat_model.specs.Step.Event.{ForgetNumber}
use Rattle.cat_core.proofs.Calls.{ledger_kept, reply_is, state_is}
use Rattle.cat_core.proofs.Numbers.{apart_of}
use Rattle.cat_core.proofs.catalogue.Catalogue.forget_number.Goals as goal

pub with_number-requires : goal.with_number-requires
with_number-requires g c = apart_of g.L.Layers.rules c.self.inside.links c.self.inside.ledger.state c.self.invariant.steady

pub invariant_of-self : goal.invariant_of-self
invariant_of-self g c =
    ledger_kept g.L.Layers.rules (ForgetNumber c.args.number) c.self.inside.ledger c.args.self.now c.self.view_is c.forget_number-came.result c.forget_number-came.new.state c.forget_number-came.new.links c.forget_number-came.ensures c.self.inside.links c.self.invariant

pub returns-clause-state : goal.returns-clause-state
returns-clause-state g c =
    state_is g.L.Layers.rules (ForgetNumber c.args.number) c.self.inside.ledger c.args.self.now c.self.view_is c.forget_number-came.result c.forget_number-came.new.state c.forget_number-came.new.links c.forget_number-came.ensures c.answered.result c.answered.ensures

pub returns-clause-reply : goal.returns-clause-reply
returns-clause-reply g c =
    reply_is g.L.Layers.rules (ForgetNumber c.args.number) c.self.inside.ledger c.args.self.now c.self.view_is c.forget_number-came.result c.forget_number-came.new.state c.forget_number-came.new.links c.forget_number-came.ensures c.answered.result c.answered.ensures
