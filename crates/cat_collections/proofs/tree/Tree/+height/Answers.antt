use Rattle.std.proofs.Common.{arith, length}
use Rattle.cat_collections.proofs.Heights.{higher, weighs}
use Rattle.cat_collections.proofs.tree.Tree.+height.Goals as goal

pub returns-then-low-high-clause-low : goal.returns-then-low-high-clause-low
returns-then-low-high-clause-low g t c =
    let d = c.deref-fork.result.now in
    let w = weighs c.self.view_is c.in-Fork.is c.deref-fork.ensures c.self.invariant in
    higher c.height-low.result (length d.left) (length c.args.self.now) c.height-low.ensures.low (omega (arith, w.long, w.low, w.high))

pub returns-else-low-high-clause-low : goal.returns-else-low-high-clause-low
returns-else-low-high-clause-low g t c =
    let d = c.deref-fork.result.now in
    let w = weighs c.self.view_is c.in-Fork.is c.deref-fork.ensures c.self.invariant in
    higher c.height-high.result (length d.right) (length c.args.self.now) c.height-high.ensures.low (omega (arith, w.long, w.low, w.high))
