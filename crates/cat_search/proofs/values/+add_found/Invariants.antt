use Rattle.std.proofs.Common.{◌≡◌, ◌++◌, map, drop}
use Rattle.cat_tree.specs.Data.{items_of, members_of}
use Rattle.cat_tree.specs.View.{data_of, entry_of, weight}
use Rattle.cat_search.specs.Walk.{values_in_items, values_in_members}
use Rattle.cat_search.proofs.values.+add_found.Given as goal

-- the nodes that a tree has
abbrev pub decreases-add_found : goal.decreases-add_found
decreases-add_found l = weight (data_of l.tree.now)

-- the values so far and those that are left are all
abbrev pub invariant-loop-tree : goal.invariant-loop-tree
invariant-loop-tree l =
    l.values.items ++ values_in_items l.is_start l.key (items_of (map data_of (drop l.tree-index l.tree-items)))
    ≡ l.fn.values.items ++ values_in_items l.is_start l.key (items_of (map data_of l.tree-items))

abbrev pub invariant-loop-name : goal.invariant-loop-name
invariant-loop-name l =
    l.values.items ++ values_in_members l.is_start l.key (members_of (map entry_of (drop l.name-index l.name-items)))
    ≡ l.fn.values.items ++ values_in_members l.is_start l.key (members_of (map entry_of l.name-items))
