use Rattle.std.proofs.Common.{ap}
use Rattle.std.specs.Prelude.{Err}
use Rattle.cat_journal.proofs.Laws.{applied_batch, no_batch}
use Rattle.cat_journal.proofs.records.apply_body.Goals as goal

pub returns-in_ok-change_rows-in-Ok : goal.returns-in_ok-change_rows-in-Ok
returns-in_ok-change_rows-in-Ok c = applied_batch c.args.body.now _ _ _ c.in-Ok.ensures.ok c.in_ok-change_rows-in-Ok.ensures

pub returns-in-Err-NoBatch : goal.returns-in-Err-NoBatch
returns-in-Err-NoBatch c = no_batch c.args.body.now (c.in-Err-NoBatch.ensures.none (ap Err c.in-Err-NoBatch.field-0-is))
