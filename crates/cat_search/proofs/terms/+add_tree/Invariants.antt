use Rattle.std.proofs.Common.{◌≡◌, ◌++◌, map, drop}
use Rattle.cat_tree.specs.Data.{items_of, members_of}
use Rattle.cat_tree.specs.View.{data_of, entry_of, weight}
use Rattle.cat_state_parts.specs.Rows.{item_rows, member_rows}
use Rattle.cat_search.specs.Terms.{terms}
use Rattle.cat_search.proofs.terms.+add_tree.Given as goal

-- the nodes that a tree has
abbrev pub decreases-add_tree : goal.decreases-add_tree
decreases-add_tree l = weight (data_of l.tree.now)

-- the terms so far and those that are left are all
abbrev pub invariant-loop-tree : goal.invariant-loop-tree
invariant-loop-tree l =
    l.found.items ++ terms (item_rows l.path (items_of (map data_of (drop l.tree-index l.tree-items))))
    ≡ l.fn.found.items ++ terms (item_rows l.path (items_of (map data_of l.tree-items)))

abbrev pub invariant-loop-key : goal.invariant-loop-key
invariant-loop-key l =
    l.found.items ++ terms (member_rows l.path (members_of (map entry_of (drop l.key-index l.key-items))))
    ≡ l.fn.found.items ++ terms (member_rows l.path (members_of (map entry_of l.key-items)))
