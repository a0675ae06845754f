use Rattle.cat_journal.proofs.Histories.{all_left, all_stand}
use Rattle.cat_journal.proofs.history.crashes_leave_what_was_kept.Goals as goal

pub returns-clause-left : goal.returns-clause-left
returns-clause-left c = λ calls old new base more stands runs. all_left calls old new base more stands runs

pub returns-clause-stands : goal.returns-clause-stands
returns-clause-stands c = λ calls old new base more stands runs. all_stand calls old new base more stands runs
