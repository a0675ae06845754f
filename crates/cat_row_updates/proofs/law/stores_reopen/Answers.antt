use Rattle.std.proofs.Common.{sym, ap}
use Rattle.cat_model.specs.Step.{reopened}
use Rattle.cat_model.specs.declared.types.OrphanRule.TheVariants.{Keep}
use Rattle.cat_stored_rows.specs.Stored.{texts_of}
use Rattle.cat_stored_rows.specs.Told.{IsTold}
use Rattle.cat_row_updates.proofs.Opening.{opens_as_one, same_first, same_stored, told_again}
use Rattle.cat_row_updates.proofs.Reading.{first_opens, read_opens, same_opens}
use Rattle.cat_row_updates.proofs.Same.{texts_tell}
use Rattle.cat_row_updates.proofs.law.stores_reopen.Goals as goal

pub returns-clause-rows : goal.returns-clause-rows
returns-clause-rows c rules rule m t = same_stored rules m rule t.records_in_order

pub returns-clause-first_rows : goal.returns-clause-first_rows
returns-clause-first_rows c rules m t = same_first rules m t.records_in_order

pub returns-clause-told : goal.returns-clause-told
returns-clause-told c rules m t = told_again rules m t

pub returns-clause-opened : goal.returns-clause-opened
returns-clause-opened c rules m t placed =
    let again : IsTold (reopened rules m) = told_again rules m t in
    sym (opens_as_one rules m (reopened rules m) t.records_in_order again.records_in_order (texts_tell Keep Keep m (reopened rules m) t again placed (ap texts_of (sym (same_stored rules m Keep t.records_in_order)))).1)

pub returns-clause-opens : goal.returns-clause-opens
returns-clause-opens c rules rule other m n t u placed is same = same_opens rules m n t placed u is rule other same

pub returns-clause-read : goal.returns-clause-read
returns-clause-read c rules rule m n t u placed is read = read_opens rules m n t placed u is rule read

pub returns-clause-read_first : goal.returns-clause-read_first
returns-clause-read_first c rules m n t u placed others is read = first_opens rules m n t placed u is others read
