-- What the parts of a tree that owns its nodes make together.
use Rattle.std.specs.Prelude.{List, [], ◌++◌, length, Option, IsSome}
use Rattle.std.specs.declared.option.Option.TheVariants.{None, Some}
use Rattle.std.specs.declared.alloc.Global.{Global}
use Rattle.std.specs.declared.boxed.Box.{Box}
use Rattle.cat_owned_map.specs.declared.boxed.Fork.{Fork}
use Rattle.cat_owned_map.specs.declared.boxed.Parts.{Parts}
use Rattle.cat_owned_map.specs.Boxed.{held}
use Rattle.cat_collections.specs.Tree.{Balance}

-- the items of a tree that was taken apart
abbrev pub parted : {E : Type 0} → Option (Parts E) → List E
parted None = []
parted (Some p) = p.left ++ (held p.fork.value.item ++ p.right)

-- the node has its item, and both sides are balanced
abbrev pub AreWhole : {E : Type 0} → Option (Parts E) → Type 0
AreWhole None = Unit {0}
AreWhole (Some p) = IsSome p.fork.value.item × Balance (length p.left) (length p.right)

-- the items of a tree whose first node was taken off
abbrev pub first_of : {E : Type 0} → Option (Box (Fork E) Global × List E) → List E
first_of None = []
first_of (Some p) = held p.0.value.item ++ p.1

-- that node has its item
abbrev pub IsFirstWhole : {E : Type 0} → Option (Box (Fork E) Global × List E) → Type 0
IsFirstWhole None = Unit {0}
IsFirstWhole (Some p) = IsSome p.0.value.item
