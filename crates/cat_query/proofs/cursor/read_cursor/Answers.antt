use Rattle.cat_query.proofs.Spelled.{fault_read}
use Rattle.cat_query.proofs.cursor.read_cursor.Goals as goal

pub returns-clause-err : goal.returns-clause-err
returns-clause-err c =
    fault_read c.args.text.now c.in_ok-bytes.bytes.items c.as_slice.result.now c.in-Err.fault c.in_ok-bytes.ensures.ok c.as_slice.ensures.value c.in-Err.ensures.err
