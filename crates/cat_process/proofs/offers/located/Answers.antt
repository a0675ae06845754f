use Rattle.std.proofs.lemmas.Result.{IfOk-weaker}
use Rattle.cat_tree.specs.View.{data_of}
use Rattle.cat_process.proofs.Trees.{located_by}
use Rattle.cat_process.proofs.offers.located.Goals as goal

pub returns : goal.returns
returns c =
    IfOk-weaker c.with_key-2.result _ _
    (λ t k. located_by c.args.origin.now c.args.name.now c.in_ok-of-2.field-0 c.in_ok-of.field-0 (data_of c.args.annotations) (data_of c.in_ok-annotations.annotations) (data_of t) c.in_ok-of.ensures c.in_ok-of-2.ensures c.in_ok-annotations.ensures k)
    c.with_key-2.ensures
