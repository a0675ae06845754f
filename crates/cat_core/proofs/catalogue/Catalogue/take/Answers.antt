use Rattle.std.specs.declared.alloc.AllocError.{AllocError}
use Rattle.cat_core.proofs.Steadies.{take_replied}
use Rattle.cat_core.proofs.catalogue.Catalogue.take.Goals as goal

pub take_first-came-requires-clause-moments : goal.take_first-came-requires-clause-moments
take_first-came-requires-clause-moments g c = record { now_below = c.requires; interval_below = c.self.invariant.settings.interval_to; lease_below = c.self.invariant.settings.lease_to }

pub invariant_of-self : goal.invariant_of-self
invariant_of-self g c =
    let h = take_replied {E = AllocError} g.L.Layers.rules c.args.now c.self.inside.ledger c.args.self.now c.self.view_is c.take_first-came.new.m c.self.inside.links c.self.invariant.steady c.take_first-came.result
    c.take_first-came.ensures.state c.take_first-came.ensures.fault c.take_first-came.ensures.order c.answered_with.result c.answered_with.ensures in
    h.kept c.self.invariant

pub returns-clause-state : goal.returns-clause-state
returns-clause-state g c =
    let h = take_replied {E = AllocError} g.L.Layers.rules c.args.now c.self.inside.ledger c.args.self.now c.self.view_is c.take_first-came.new.m c.self.inside.links c.self.invariant.steady c.take_first-came.result
    c.take_first-came.ensures.state c.take_first-came.ensures.fault c.take_first-came.ensures.order c.answered_with.result c.answered_with.ensures in
    h.state

pub returns-clause-reply : goal.returns-clause-reply
returns-clause-reply g c =
    let h = take_replied {E = AllocError} g.L.Layers.rules c.args.now c.self.inside.ledger c.args.self.now c.self.view_is c.take_first-came.new.m c.self.inside.links c.self.invariant.steady c.take_first-came.result
    c.take_first-came.ensures.state c.take_first-came.ensures.fault c.take_first-came.ensures.order c.answered_with.result c.answered_with.ensures in
    h.reply
