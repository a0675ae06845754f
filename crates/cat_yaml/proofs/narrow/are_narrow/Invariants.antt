use Rattle.std.proofs.Common.{◌≡◌, drop, map}
use Rattle.cat_tree.specs.Data.{items_of}
use Rattle.cat_tree.specs.View.{data_of}
use Rattle.cat_yaml.specs.Narrow.{are_narrow}
use Rattle.cat_yaml.proofs.narrow.are_narrow.Given as goal

-- the trees so far are narrow
abbrev pub invariant-loop-tree : goal.invariant-loop-tree
invariant-loop-tree l =
    are_narrow (items_of (map data_of (drop l.tree-index l.trees))) ≡ are_narrow (items_of (map data_of l.trees))
