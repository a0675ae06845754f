use Rattle.std.proofs.Common.{◌≡◌, IfOk, IfErr, subst}
use Rattle.std.specs.declared.option.Option.TheVariants.{None}
use Rattle.cat_model.specs.Reply.{counts}
use Rattle.cat_model.specs.Settle.{try_settle}
use Rattle.cat_core.specs.Answer.{IsCutSettle}
use Rattle.cat_core.proofs.catalogue.Catalogue.settle.Goals as goal

pub settle_state-requires-clause-moments : goal.settle_state-requires-clause-moments
settle_state-requires-clause-moments g c = record { now_below = c.requires; interval_below = c.self.invariant.settings.interval_to; lease_below = c.self.invariant.settings.lease_to }

pub settle_state-requires-clause-interval : goal.settle_state-requires-clause-interval
settle_state-requires-clause-interval g c = c.self.invariant.settings.interval_from

pub invariant_of-self : goal.invariant_of-self
invariant_of-self g c = record { settings = c.self.invariant.settings; steady = c.settle_state.ensures.steady; begun = c.settle_state.ensures.begun }

pub returns-clause-state : goal.returns-clause-state
returns-clause-state g c = subst (λ l. IfOk c.settle_state.result (λ x. c.settle_state.new.state ≡ (try_settle g.L.Layers.rules l.settings c.args.now None l.state).state)) c.self.view_is c.settle_state.ensures.settled.state

pub returns-clause-counts : goal.returns-clause-counts
returns-clause-counts g c = subst (λ l. IfOk c.settle_state.result (λ x. x ≡ counts (try_settle g.L.Layers.rules l.settings c.args.now None l.state))) c.self.view_is c.settle_state.ensures.settled.counts

pub returns-clause-quiet : goal.returns-clause-quiet
returns-clause-quiet g c = c.settle_state.ensures.settled.quiet

pub returns-clause-cut : goal.returns-clause-cut
returns-clause-cut g c = subst (λ l. IfErr c.settle_state.result (λ x. IsCutSettle g.L.Layers.rules l.settings c.args.now l.state c.settle_state.new.state x)) c.self.view_is c.settle_state.ensures.settled.cut

pub returns-clause-ended : goal.returns-clause-ended
returns-clause-ended g c = subst (λ l. IfOk c.settle_state.result (λ x. (try_settle g.L.Layers.rules l.settings c.args.now None l.state).stop ≡ None)) c.self.view_is c.settle_state.ensures.settled.ended
