-- What a node that is owned is seen as.
use Rattle.std.specs.Prelude.{◌≡◌, ◌<◌, ◌^◌, List, [], ◌∷◌, ◌++◌, length, Option, IsSome}
use Rattle.std.specs.declared.option.Option.TheVariants.{None, Some}
use Rattle.cat_owned_map.specs.declared.boxed.Link.{Link}
use Rattle.cat_owned_map.specs.declared.boxed.Link.TheVariants.{Leaf, Fork}
use Rattle.cat_collections.specs.Tree.{Balance}

-- the item, if there is one
abbrev pub held : {E : Type 0} → Option E → List E
held None = []
held (Some x) = x ∷ []

-- the items in order
abbrev pub items : {E : Type 0} → Link E → List E
items Leaf = []
items (Fork f) = f.value.left ++ (held f.value.item ++ f.value.right)

-- there is an item, the stored size is right, there is room for a number of items beside it, and the sides are balanced
abbrev pub IsKept : {E : Type 0} → Link E → Type 0
IsKept Leaf = Unit {0}
IsKept (Fork f) = IsSome f.value.item × (f.value.size ≡ length (f.value.left ++ (held f.value.item ++ f.value.right))) × (f.value.size < 2 ^ 62) × Balance (length f.value.left) (length f.value.right)
