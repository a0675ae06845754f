-- What the parts of a tree make together.
use Rattle.std.specs.Prelude.{List, [], ◌∷◌, ◌++◌, length}
use Rattle.std.specs.Arc.{arc_value}
use Rattle.std.specs.declared.alloc.Global.{Global}
use Rattle.std.specs.declared.sync.Arc.{Arc}
use Rattle.std.specs.declared.option.Option.{Option}
use Rattle.std.specs.declared.option.Option.TheVariants.{None, Some}
use Rattle.cat_collections.specs.declared.tree.Parts.{Parts}
use Rattle.cat_collections.specs.Tree.{Balance}

-- the items of a tree that was taken apart
abbrev pub parted : {A : Type 0} → Option (Parts A) → List A
parted None = []
parted (Some p) = p.left ++ arc_value p.item ∷ p.right

-- both sides are balanced
abbrev pub IsBalanced : {A : Type 0} → Option (Parts A) → Type 0
IsBalanced None = Unit {0}
IsBalanced (Some p) = Balance (length p.left) (length p.right)

-- the items of a tree whose first was taken off
abbrev pub first_of : {A : Type 0} → Option (Arc A Global × List A) → List A
first_of None = []
first_of (Some p) = arc_value p.0 ∷ p.1
