use Rattle.cat_row_updates.proofs.Both.{firsts_tell}
use Rattle.cat_row_updates.proofs.Narrow.{firsts_narrow}
use Rattle.cat_row_updates.proofs.Opening.{opens_as_one, starts_as_one}
use Rattle.cat_row_updates.proofs.law.first_rows_tell_the_state.Goals as goal

pub returns-clause-state : goal.returns-clause-state
returns-clause-state c rules m n t u placed others same = opens_as_one rules m n t.records_in_order u.records_in_order (firsts_tell m n t u placed (firsts_narrow m t placed) others same)

pub returns-clause-start : goal.returns-clause-start
returns-clause-start c m n t u placed others due other_due start other_start same =
    starts_as_one m n t.records_in_order u.records_in_order due other_due start other_start (firsts_tell m n t u placed (firsts_narrow m t placed) others same)
