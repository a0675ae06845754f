use Rattle.std.proofs.Common.{◌≡◌}
use Rattle.cat_store.proofs.Opening.{opening_kept, opens_told, still_holds}
use Rattle.cat_model.specs.Step.{reopened}
use Rattle.cat_store.proofs.open.told.Goals as goal

pub returns-clause-opening : goal.returns-clause-opening
returns-clause-opening g c =
    opening_kept g.L.Layers.rules c.args.candidate.value c.in_ok-found.found c.telling.result c.telling.ensures.same c.telling.ensures.tells c.in_ok-found.ensures.steady c.in_ok-found.ensures.begun c.in_ok-found.ensures.state

pub returns-clause-state : goal.returns-clause-state
returns-clause-state g c = still_holds (λ x. x.state.value ≡ reopened g.L.Layers.rules c.args.candidate.value) c.in_ok-found.found c.telling.result c.telling.ensures.same c.in_ok-found.ensures.state

pub returns-clause-opens : goal.returns-clause-opens
returns-clause-opens g c = opens_told g.L.Layers.rules c.args.candidate.value c.in_ok-found.found c.telling.result c.in_ok-found.ensures.exact c.in_ok-found.ensures.state c.telling.ensures.opens
