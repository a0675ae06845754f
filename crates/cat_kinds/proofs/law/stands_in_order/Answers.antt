use Rattle.cat_kinds.specs.Kinds.{relations_of, namespace_of, stated_by}
use Rattle.cat_kinds.specs.Mentions.{mentions}
use Rattle.cat_kinds.proofs.Orders.{in_order-rises, in_order-keeps, in_order-adds_none}
use Rattle.cat_kinds.proofs.law.stands_in_order.Goals as goal

pub returns : goal.returns
unfolding relations_of
returns c = record {
  rises = λ d source. in_order-rises (stated_by source (namespace_of d) (mentions d));
  exact = λ d source x. (in_order-adds_none _ x, in_order-keeps _ x);
}
