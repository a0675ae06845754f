use Rattle.std.proofs.Common.{◌≡◌, map, drop}
use Rattle.std.specs.Option.{option_copied}
use Rattle.cat_tree.specs.Data.{items_of, members_of}
use Rattle.cat_tree.specs.View.{data_of, entry_of, weight}
use Rattle.cat_search.specs.Walk.{is_found_in_items, is_found_in_members}
use Rattle.cat_search.proofs.walk.+is_found.Given as goal

-- the nodes that a tree has
abbrev pub decreases-is_found : goal.decreases-is_found
decreases-is_found l = weight (data_of l.tree.now)

-- what is found is found in what is left
abbrev pub invariant-loop-tree : goal.invariant-loop-tree
invariant-loop-tree l =
    is_found_in_items l.is_start l.key (option_copied l.value) (items_of (map data_of (drop l.tree-index l.tree-items)))
    ≡ is_found_in_items l.is_start l.key (option_copied l.value) (items_of (map data_of l.tree-items))

abbrev pub invariant-loop-name : goal.invariant-loop-name
invariant-loop-name l =
    is_found_in_members l.is_start l.key (option_copied l.value) (members_of (map entry_of (drop l.name-index l.name-items)))
    ≡ is_found_in_members l.is_start l.key (option_copied l.value) (members_of (map entry_of l.name-items))
