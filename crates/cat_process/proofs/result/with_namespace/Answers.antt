use Rattle.std.proofs.lemmas.Result.{IfOk-weaker}
use Rattle.cat_tree.specs.View.{data_of}
use Rattle.cat_process.proofs.Trees.{default_by}
use Rattle.cat_process.proofs.result.with_namespace.Goals as goal

pub returns : goal.returns
returns c =
    IfOk-weaker c.with_key-2.result _ _
    (λ t k. default_by c.in_ok-of.field-0 (data_of c.args.metadata.now) (data_of c.in_ok-metadata.metadata) (data_of c.in_ok-metadata-2.metadata) (data_of c.args.tree.now) (data_of c.in_ok-tree.tree) (data_of t) c.in_ok-of.ensures c.in_ok-metadata.ensures c.in_ok-metadata-2.ensures c.in_ok-tree.ensures k)
    c.with_key-2.ensures
