use Rattle.std.proofs.Common.{inl, arith}
use Rattle.cat_journal.proofs.Texts.{other}
use Rattle.cat_journal.proofs.body.change_of.Goals as goal

pub returns-clause-err : goal.returns-clause-err
returns-clause-err c = inl (other c.args.trees.now (λ e. omega arith) (λ e. omega arith))
