use Rattle.std.proofs.Common.{◌≡◌, drop, map}
use Rattle.cat_tree.specs.Data.{items_of, members_of}
use Rattle.cat_tree.specs.Proper.{ItemsProper, MembersProper}
use Rattle.cat_tree.specs.View.{data_of, entry_of, weight}
use Rattle.cat_store.specs.Narrow.{are_narrow, have_narrow}
use Rattle.cat_store.proofs.narrow.+is_narrow.Given as goal

-- the nodes that a tree has
abbrev pub decreases-is_narrow : goal.decreases-is_narrow
decreases-is_narrow l = weight (data_of l.tree.now)

-- the trees so far are narrow and proper
abbrev pub invariant-loop-tree : goal.invariant-loop-tree
invariant-loop-tree l =
    (are_narrow (items_of (map data_of (drop l.tree-index l.tree-items))) ≡ are_narrow (items_of (map data_of l.tree-items)))
    × (ItemsProper (items_of (map data_of (drop l.tree-index l.tree-items))) → ItemsProper (items_of (map data_of l.tree-items)))

abbrev pub invariant-loop-tree-2 : goal.invariant-loop-tree-2
invariant-loop-tree-2 l =
    (have_narrow (members_of (map entry_of (drop l.tree-index l.tree-items))) ≡ have_narrow (members_of (map entry_of l.tree-items)))
    × (MembersProper (members_of (map entry_of (drop l.tree-index l.tree-items))) → MembersProper (members_of (map entry_of l.tree-items)))
