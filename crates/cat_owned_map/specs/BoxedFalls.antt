-- Each side of a node in a tree has fewer items than the node's tree.
use Rattle.std.specs.Prelude.{◌≤◌, max, ◌++◌, length, Option, IsSome}
use Rattle.std.proofs.Common.{arith, length-append}
use Rattle.std.specs.declared.option.Option.TheVariants.{None, Some}
use Rattle.cat_owned_map.specs.declared.boxed.Link.{Link}
use Rattle.cat_owned_map.specs.declared.boxed.Link.TheVariants.{Leaf, Fork}
use Rattle.cat_owned_map.specs.declared.boxed.Boxed.TheDeep.{deep-Link}
use Rattle.cat_owned_map.specs.Boxed.{items, held, IsKept}

one_held : {E : Type 0} (x : Option E) → IsSome x → 1 ≤ length (held x)
one_held None h = absurd (cc)
one_held (Some x) h = omega arith

pub depth_le-length : (E : Type 0) (n : Link E) → IsKept n → max (deep-Link E n) 0 ≤ length (items n)
depth_le-length E Leaf h = omega arith
depth_le-length E (Fork f) h = omega (arith, one_held f.value.item h.0, length-append f.value.left (held f.value.item ++ f.value.right), length-append (held f.value.item) f.value.right)
