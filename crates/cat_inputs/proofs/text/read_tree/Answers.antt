use Rattle.cat_inputs.proofs.Reading.{read_ok, read_err}
use Rattle.cat_inputs.proofs.text.read_tree.Goals as goal

pub returns-clause-ok : goal.returns-clause-ok
returns-clause-ok c = read_ok c.args.bytes.now c.read.result c.read.ensures.ok

pub returns-clause-err : goal.returns-clause-err
returns-clause-err c = read_err c.args.bytes.now c.read.result c.read.ensures.syntax c.read.ensures.fraction
