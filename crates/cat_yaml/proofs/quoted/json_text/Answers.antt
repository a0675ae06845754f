use Rattle.cat_tree.specs.View.{data_of}
use Rattle.cat_yaml.proofs.Quotes.{json_ok, json_err}
use Rattle.cat_yaml.proofs.quoted.json_text.Goals as goal

pub returns-in-Ok-clause-ok : goal.returns-in-Ok-clause-ok
returns-in-Ok-clause-ok c = rw (json_ok c.args.bytes.now (data_of c.in-Ok.tree) c.in-Ok.ensures.ok) c.words_in.ensures.ok

pub returns-in-Err-clause-err : goal.returns-in-Err-clause-err
returns-in-Err-clause-err c = rw c.refusal_of.ensures (json_err c.args.bytes.now c.in-Err.fault c.in-Err.ensures.syntax c.in-Err.ensures.fraction)
