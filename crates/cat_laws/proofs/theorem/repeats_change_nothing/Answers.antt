-- Repeats change nothing.
use Rattle.cat_collections.proofs.Tables.{none_or_some}
use Rattle.cat_laws.proofs.Repeats.{old_mutation, run_above, again}
use Rattle.cat_laws.proofs.theorem.repeats_change_nothing.Goals as goal

pub returns-clause-old : goal.returns-clause-old
returns-clause-old c rules settings m p x le = old_mutation rules settings m p x le

pub returns-clause-later : goal.returns-clause-later
returns-clause-later c rules settings m events p = run_above rules settings p events m

pub returns-clause-repeats : goal.returns-clause-repeats
returns-clause-repeats c rules settings m p x first second accepted = again rules settings m p x first second (none_or_some _ accepted)
