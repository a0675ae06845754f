-- What a node of a tree is seen as.
use Rattle.std.specs.Prelude.{◌≡◌, ℕ, ◌+◌, ◌*◌, ◌^◌, ◌<◌, ◌≤◌, List, [], ◌∷◌, ◌++◌, length}
use Rattle.std.specs.Arc.{arc_value}
use Rattle.cat_collections.specs.declared.tree.Node.{Node}
use Rattle.cat_collections.specs.declared.tree.Node.TheVariants.{Leaf, Fork}

-- the items in order
abbrev pub items : {A : Type 0} → Node A → List A
items Leaf = []
items (Fork f) = f.value.left ++ arc_value f.value.item ∷ f.value.right

-- neither side has more than three times the items of the other, with one more counted on each
abbrev pub Balance : ℕ → ℕ → Type 0
Balance low high = (low ≤ 3 * high + 2) × (high ≤ 3 * low + 2)

-- the same, before an item came to one side or left it
abbrev pub NearBalance : ℕ → ℕ → Type 0
NearBalance low high = (low ≤ 3 * high + 5) × (high ≤ 3 * low + 5)

-- the stored size is right, there is room for a number of items beside it, and the sides are balanced
abbrev pub IsSized : {A : Type 0} → Node A → Type 0
IsSized Leaf = Unit {0}
IsSized (Fork f) = (f.value.size ≡ length (f.value.left ++ arc_value f.value.item ∷ f.value.right)) × (f.value.size < 2 ^ 62) × Balance (length f.value.left) (length f.value.right)
