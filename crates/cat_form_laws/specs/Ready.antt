-- What holds of the trees of every mutation that a line gives.
use Rattle.std.specs.List.{AllByRecursion}
use Rattle.cat_tree.specs.Proper.{IsProper}
use Rattle.cat_types.specs.declared.input.Item.{Item}
use Rattle.cat_types.specs.declared.input.Mutation.{Mutation}
use Rattle.cat_inputs.specs.WellFormed.{items_at}

-- the keys of the maps in an item's tree rise
abbrev pub HasProperTree : Item → Type 0
HasProperTree x = IsProper x.tree

-- the keys of the maps in each item's tree rise, as the type of trees keeps them
abbrev pub HasProperTrees : Mutation → Type 0
HasProperTrees m = AllByRecursion HasProperTree (items_at m)
