use Rattle.std.proofs.Common.{◌≡◌, subst}
use Rattle.std.specs.declared.option.Option.TheVariants.{Some}
use Rattle.cat_model.specs.Settle.{try_settle}
use Rattle.cat_core.proofs.catalogue.Catalogue.settle_within.Goals as goal

pub settle_begun-requires-clause-moments : goal.settle_begun-requires-clause-moments
settle_begun-requires-clause-moments g c = record { now_below = c.requires.moment; interval_below = c.self.invariant.settings.interval_to; lease_below = c.self.invariant.settings.lease_to }

pub settle_begun-requires-clause-interval : goal.settle_begun-requires-clause-interval
settle_begun-requires-clause-interval g c = c.self.invariant.settings.interval_from

pub invariant_of-self : goal.invariant_of-self
invariant_of-self g c = record { settings = c.self.invariant.settings; steady = c.settle_begun.ensures.steady; begun = c.settle_begun.ensures.begun }

pub returns-clause-state : goal.returns-clause-state
returns-clause-state g c = subst (λ l. c.settle_begun.new.state ≡ (try_settle g.L.Layers.rules l.settings c.args.now (Some c.settle_begun.result) l.state).state) c.self.view_is c.settle_begun.ensures.state

pub returns-clause-events : goal.returns-clause-events
returns-clause-events g c = subst (λ l. (try_settle g.L.Layers.rules l.settings c.args.now (Some c.settle_begun.result) l.state).events ≡ c.settle_begun.result) c.self.view_is c.settle_begun.ensures.events

pub returns-clause-none : goal.returns-clause-none
returns-clause-none g c = subst (λ l. c.settle_begun.result ≡ 0 → c.settle_begun.new.state ≡ l.state) c.self.view_is c.settle_begun.ensures.none
