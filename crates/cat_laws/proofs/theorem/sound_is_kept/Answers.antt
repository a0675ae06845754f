-- What holds between two events is kept.
use Rattle.cat_laws.proofs.Reopened.{reopened_sound}
use Rattle.cat_laws.proofs.Stands.{settle_keeps}
use Rattle.cat_laws.proofs.Steps.{run_kept, start_kept}
use Rattle.cat_model.specs.declared.types.OrphanRule.TheVariants.{Keep}
use Rattle.cat_laws.proofs.theorem.sound_is_kept.Goals as goal

pub returns-clause-begins : goal.returns-clause-begins
returns-clause-begins c rules = start_kept rules (record { interval = 1; lease = 1; input_limit = 0; orphans = Keep })

pub returns-clause-keeps : goal.returns-clause-keeps
returns-clause-keeps c rules settings m events sound = run_kept rules settings events m sound

pub returns-clause-reopens : goal.returns-clause-reopens
returns-clause-reopens c rules m sound = reopened_sound rules m sound

pub returns-clause-settles : goal.returns-clause-settles
returns-clause-settles c rules settings m now limit sound = (settle_keeps rules settings now limit m).sound sound
