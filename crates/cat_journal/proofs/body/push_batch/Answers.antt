use Rattle.std.proofs.lemmas.Result.{on_ok_weaker}
use Rattle.cat_tree.specs.View.{data_of}
use Rattle.cat_journal.proofs.Texts.{written_text}
use Rattle.cat_journal.proofs.body.push_batch.Goals as goal

pub returns-clause-spelled : goal.returns-clause-spelled
returns-clause-spelled c = on_ok_weaker c.write.result (written_text c.args.batch.now (data_of c.in_ok-tree.tree) c.in_ok-tree.ensures c.in_order.ensures) c.write.ensures.reads_back
