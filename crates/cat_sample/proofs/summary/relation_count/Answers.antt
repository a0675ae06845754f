use Rattle.std.proofs.Common.{◌+◌, sym, ap, ◌∙◌, arith}
use Rattle.cat_collections.specs.Left.{items_left}
use Rattle.cat_sample.specs.Summary.{capped, relation_count}
use Rattle.cat_sample.proofs.Counts.{counts_begun, counts_ended}
use Rattle.cat_sample.proofs.summary.relation_count.Goals as goal

pub loop-node-init : goal.loop-node-init
loop-node-init c = (
  tt,
  tt,
  omega arith,
  ap (λ ds. capped (0 + relation_count ds)) (ap items_left c.into_iter-node-iterator.ensures.into_iter_gives ∙ c.iter-node-items.ensures) ∙ counts_begun c.args.documents.now,
)

pub returns : goal.returns
returns c = sym (counts_ended c.loop-node.count (items_left c.loop-node.node-iterator) c.in-None.ensures.steps.0 c.loop-node.invariant.2) ∙ c.loop-node.invariant.3
