-- Under the rule that deletes, no event makes an orphan.
use Rattle.cat_model.specs.Step.{run}
use Rattle.cat_laws.proofs.Orphans.{just_fresh, reached_fresh, run_makes, settle_makes, step_makes, still_none}
use Rattle.cat_laws.proofs.theorem.deleting_makes_no_orphan.Goals as goal

pub returns-clause-step : goal.returns-clause-step
returns-clause-step c rules settings m event deletes = step_makes rules settings deletes event m

pub returns-clause-later : goal.returns-clause-later
returns-clause-later c rules settings m events deletes = run_makes rules settings deletes events m

pub returns-clause-settles : goal.returns-clause-settles
returns-clause-settles c rules settings m now limit deletes = settle_makes rules settings deletes now limit m

pub returns-clause-none : goal.returns-clause-none
returns-clause-none c rules settings m events deletes none = still_none m (run rules settings events m) (run_makes rules settings deletes events m) none

pub returns-clause-quiet : goal.returns-clause-quiet
returns-clause-quiet c rules m now sound ordered none quiet = just_fresh rules m now sound ordered none quiet

pub returns-clause-reached : goal.returns-clause-reached
returns-clause-reached c rules settings events now deletes quiet = reached_fresh rules settings deletes events now quiet
