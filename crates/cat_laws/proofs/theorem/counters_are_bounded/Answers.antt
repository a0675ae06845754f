-- The counters are bounded on both sides.
use Rattle.cat_laws.proofs.Counters.{start_begun, start_small, run_begun, reopened_begun, reopened_small}
use Rattle.cat_laws.proofs.Stands.{settle_keeps}
use Rattle.cat_laws.proofs.Steps.{run_small}
use Rattle.cat_laws.proofs.theorem.counters_are_bounded.Goals as goal

pub returns-clause-begins : goal.returns-clause-begins
returns-clause-begins c = (start_begun, start_small)

pub returns-clause-begun : goal.returns-clause-begun
returns-clause-begun c rules settings m events h = run_begun rules settings events m h

pub returns-clause-small : goal.returns-clause-small
returns-clause-small c rules settings m events h = run_small rules settings events m h

pub returns-clause-reopens : goal.returns-clause-reopens
returns-clause-reopens c rules m begun small = (reopened_begun rules m begun, reopened_small rules m small)

pub returns-clause-settles : goal.returns-clause-settles
returns-clause-settles c rules settings m now limit begun small = let k = settle_keeps rules settings now limit m in (k.begun begun, k.small small)
