use Rattle.cat_session_lines.proofs.Queried.{read_ok, read_err}
use Rattle.cat_session_lines.proofs.query.query_of.Goals as goal

pub returns-clause-ok : goal.returns-clause-ok
returns-clause-ok c = read_ok c.args.text.now c.read_query.result c.read_query.ensures.ok c.read_query.ensures.cursor

pub returns-clause-err : goal.returns-clause-err
returns-clause-err c = read_err c.args.text.now c.read_query.result c.read_query.ensures.err
