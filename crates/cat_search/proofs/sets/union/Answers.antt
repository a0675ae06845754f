use Rattle.cat_search.proofs.Finds.{given, union_turned}
use Rattle.cat_search.proofs.sets.union.Goals as goal

pub returns-then-len : goal.returns-then-len
returns-then-len c = given c.joined.result _ _ (union_turned c.args.right.now c.args.left.now c.in_order-2.ensures c.in_order.ensures) c.joined.ensures
