use Rattle.std.proofs.Common.{◌≡◌, IfOk, IfErr, subst}
use Rattle.std.specs.declared.option.Option.TheVariants.{None}
use Rattle.cat_model.specs.Reply.{counts}
use Rattle.cat_model.specs.Settle.{try_settle}
use Rattle.cat_affected.specs.Gathered.{IsWithin}
use Rattle.cat_settle.proofs.Gathering.{within_itself}
use Rattle.cat_core.specs.Answer.{IsCutSettle}
use Rattle.cat_core.proofs.catalogue.Catalogue.settle_reaching.Goals as goal

pub settle_state-reply-requires-clause-moments : goal.settle_state-reply-requires-clause-moments
settle_state-reply-requires-clause-moments g c = record { now_below = c.requires; interval_below = c.self.invariant.settings.interval_to; lease_below = c.self.invariant.settings.lease_to }

pub settle_state-reply-requires-clause-interval : goal.settle_state-reply-requires-clause-interval
settle_state-reply-requires-clause-interval g c = c.self.invariant.settings.interval_from

pub invariant_of-self : goal.invariant_of-self
invariant_of-self g c = record { settings = c.self.invariant.settings; steady = c.settle_state-reply.ensures.steady; begun = c.settle_state-reply.ensures.begun }

pub returns-clause-state : goal.returns-clause-state
returns-clause-state g c = subst (λ l. IfOk c.settle_state-reply.result (λ x. c.settle_state-reply.new.state ≡ (try_settle g.L.Layers.rules l.settings c.args.now None l.state).state)) c.self.view_is c.settle_state-reply.ensures.settled.state

pub returns-clause-counts : goal.returns-clause-counts
returns-clause-counts g c = subst (λ l. IfOk c.settle_state-reply.result (λ x. x ≡ counts (try_settle g.L.Layers.rules l.settings c.args.now None l.state))) c.self.view_is c.settle_state-reply.ensures.settled.counts

pub returns-clause-quiet : goal.returns-clause-quiet
returns-clause-quiet g c = c.settle_state-reply.ensures.settled.quiet

pub returns-clause-cut : goal.returns-clause-cut
returns-clause-cut g c = subst (λ l. IfErr c.settle_state-reply.result (λ x. IsCutSettle g.L.Layers.rules l.settings c.args.now l.state c.settle_state-reply.new.state x)) c.self.view_is c.settle_state-reply.ensures.settled.cut

pub returns-clause-ended : goal.returns-clause-ended
returns-clause-ended g c = subst (λ l. IfOk c.settle_state-reply.result (λ x. (try_settle g.L.Layers.rules l.settings c.args.now None l.state).stop ≡ None)) c.self.view_is c.settle_state-reply.ensures.settled.ended

pub returns-clause-reaches : goal.returns-clause-reaches
returns-clause-reaches g c =
    subst (λ l. IsWithin c.settle_state-reply.new.reached l.state c.settle_state-reply.new.state) c.self.view_is
    (c.settle_state-reply.ensures.gathers.within _ (within_itself _ _))
