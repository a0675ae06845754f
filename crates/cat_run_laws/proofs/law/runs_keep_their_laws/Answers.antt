use Rattle.cat_laws.proofs.Fresh.{is_fresh}
use Rattle.cat_run_laws.proofs.Journals.{settled_quiet}
use Rattle.cat_run_laws.proofs.Keeping.{run_has_none, run_just_fresh, run_sound}
use Rattle.cat_run_laws.proofs.law.runs_keep_their_laws.Goals as goal

pub returns-clause-sound : goal.returns-clause-sound
returns-clause-sound c rules settings m steps sound = run_sound rules settings m steps sound

pub returns-clause-fresh : goal.returns-clause-fresh
returns-clause-fresh c rules settings m steps now sound quiet = is_fresh rules _ (run_sound rules settings m steps sound) now quiet

pub returns-clause-no_orphan : goal.returns-clause-no_orphan
returns-clause-no_orphan c rules settings m steps deletes none = run_has_none rules settings deletes m steps none

pub returns-clause-just_fresh : goal.returns-clause-just_fresh
returns-clause-just_fresh c rules settings m steps now sound ordered deletes none quiet = run_just_fresh rules settings m steps now sound ordered deletes none quiet

pub returns-clause-settled : goal.returns-clause-settled
returns-clause-settled c rules settings m now word counts later sound told = settled_quiet rules settings m now word counts later sound told
