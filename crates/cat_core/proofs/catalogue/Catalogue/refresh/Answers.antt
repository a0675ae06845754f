use Rattle.std.specs.declared.alloc.AllocError.{AllocError}
use Rattle.std.specs.declared.option.Option.{Option}
use Rattle.std.specs.declared.result.Result.{Result}
use Rattle.std.specs.declared.result.Result.TheVariants.{Ok}
use Rattle.cat_model.specs.declared.types.Fault.{Fault}
use Rattle.cat_model.specs.Step.Event.{Refresh}
use Rattle.cat_core.proofs.Calls.{ledger_kept, no_memory, reply_is, state_is}
use Rattle.cat_core.proofs.Steadies.{refresh_come}
use Rattle.cat_core.proofs.catalogue.Catalogue.refresh.Goals as goal

pub invariant_of-self : goal.invariant_of-self
invariant_of-self g c =
    let f = c.refresh-fault in
    let came : Result (Option Fault) AllocError = Ok f.result in
    let come = refresh_come {E = AllocError} g.L.Layers.rules c.self.inside.ledger.settings c.args.reference.now c.self.inside.ledger.state c.self.inside.links c.self.invariant.steady f.result f.new.state f.ensures.state f.ensures.fault in
    ledger_kept g.L.Layers.rules (Refresh c.args.reference.now) c.self.inside.ledger c.args.self.now c.self.view_is came _ _ come c.self.inside.links c.self.invariant

pub returns-clause-state : goal.returns-clause-state
returns-clause-state g c =
    let f = c.refresh-fault in
    let came : Result (Option Fault) AllocError = Ok f.result in
    let come = refresh_come {E = AllocError} g.L.Layers.rules c.self.inside.ledger.settings c.args.reference.now c.self.inside.ledger.state c.self.inside.links c.self.invariant.steady f.result f.new.state f.ensures.state f.ensures.fault in
    state_is g.L.Layers.rules (Refresh c.args.reference.now) c.self.inside.ledger c.args.self.now c.self.view_is came _ _ come c.answered.result c.answered.ensures

pub returns-clause-reply : goal.returns-clause-reply
returns-clause-reply g c =
    let f = c.refresh-fault in
    let came : Result (Option Fault) AllocError = Ok f.result in
    let come = refresh_come {E = AllocError} g.L.Layers.rules c.self.inside.ledger.settings c.args.reference.now c.self.inside.ledger.state c.self.inside.links c.self.invariant.steady f.result f.new.state f.ensures.state f.ensures.fault in
    reply_is g.L.Layers.rules (Refresh c.args.reference.now) c.self.inside.ledger c.args.self.now c.self.view_is came _ _ come c.answered.result c.answered.ensures

pub returns-clause-memory : goal.returns-clause-memory
returns-clause-memory g c = no_memory AllocError c.refresh-fault.result c.answered.result c.answered.ensures
