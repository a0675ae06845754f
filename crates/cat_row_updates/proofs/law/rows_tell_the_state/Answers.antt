use Rattle.cat_row_updates.proofs.Opening.{opens_as_one, starts_as_one}
use Rattle.cat_row_updates.proofs.Same.{texts_tell}
use Rattle.cat_row_updates.proofs.law.rows_tell_the_state.Goals as goal

pub returns-clause-rule : goal.returns-clause-rule
returns-clause-rule c rule other m n t u placed same = (texts_tell rule other m n t u placed same).0

pub returns-clause-state : goal.returns-clause-state
returns-clause-state c rules rule other m n t u placed same = opens_as_one rules m n t.records_in_order u.records_in_order (texts_tell rule other m n t u placed same).1

pub returns-clause-start : goal.returns-clause-start
returns-clause-start c rule other m n t u placed due other_due start other_start same =
    starts_as_one m n t.records_in_order u.records_in_order due other_due start other_start (texts_tell rule other m n t u placed same).1
