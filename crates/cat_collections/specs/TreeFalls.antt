-- Each side of a fork has fewer items than the fork.
use Rattle.std.specs.Prelude.{◌≤◌, max, ◌∷◌, length}
use Rattle.std.proofs.Common.{arith, length-append}
use Rattle.std.specs.Arc.{arc_value}
use Rattle.cat_collections.specs.declared.tree.Node.{Node}
use Rattle.cat_collections.specs.declared.tree.Node.TheVariants.{Leaf, Fork}
use Rattle.cat_collections.specs.declared.tree.Tree.TheDeep.{deep-Node}
use Rattle.cat_collections.specs.Tree.{items}

pub depth_le-length : (A : Type 0) (n : Node A) → max (deep-Node A n) 0 ≤ length (items n)
depth_le-length A Leaf = omega arith
depth_le-length A (Fork f) = omega (arith, length-append f.value.left (arc_value f.value.item ∷ f.value.right))
