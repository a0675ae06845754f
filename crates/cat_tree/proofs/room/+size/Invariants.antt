use Rattle.std.proofs.Common.{◌≡◌, ◌+◌, ◌^◌, ◌≤◌, min, length, drop, map, false}
use Rattle.serde_json.specs.Written.{items_text, members_text}
use Rattle.cat_tree.specs.Data.{items_of, members_of}
use Rattle.cat_tree.specs.Text.{json_items, json_members}
use Rattle.cat_tree.specs.View.{data_of, entry_of, weight}
use Rattle.cat_tree.proofs.room.+size.Given as goal

-- the nodes that a tree has
abbrev pub decreases-size : goal.decreases-size
decreases-size l = weight (data_of l.tree.now)

-- the sum, with what is left, is the whole
abbrev pub invariant-loop-tree : goal.invariant-loop-tree
invariant-loop-tree l =
    (l.total ≤ 2 ^ 62)
    × (min (l.total + length (items_text l.later (json_items (items_of (map data_of (drop l.tree-index l.tree-items)))))) (2 ^ 62)
    ≡ min (1 + length (items_text false (json_items (items_of (map data_of l.tree-items))))) (2 ^ 62))

abbrev pub invariant-loop-key : goal.invariant-loop-key
invariant-loop-key l =
    (l.total ≤ 2 ^ 62)
    × (min (l.total + length (members_text l.later (json_members (members_of (map entry_of (drop l.key-index l.key-items)))))) (2 ^ 62)
    ≡ min (1 + length (members_text false (json_members (members_of (map entry_of l.key-items))))) (2 ^ 62))
