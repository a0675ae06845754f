use Rattle.cat_tree.specs.View.{data_of}
use Rattle.cat_row_format.proofs.Alone.{written_alone}
use Rattle.cat_row_format.proofs.write.write_row.Goals as goal

pub returns-clause-alone : goal.returns-clause-alone
returns-clause-alone c =
    written_alone c.args.row.now c.row_table.result c.in_ok-key.key c.in_ok-value.value (data_of c.in_ok-tree.tree) c.requires c.in_ok-tree.ensures.named c.row_table.ensures c.in_ok-key.ensures c.in_ok-tree.ensures.data c.in_ok-value.ensures.reads
