use Rattle.cat_row_updates.proofs.Reading.{rows_open}
use Rattle.cat_row_updates.proofs.law.what_is_read_opens.Goals as goal

pub returns : goal.returns
returns c rules rows n u others is read = rows_open rules n u others is rows read
