use Rattle.std.proofs.Common.{◌≡◌, ◌+◌, ◌≤◌, ◌++◌, length, drop, map, false, vec_len, vec_capacity}
use Rattle.serde_json.specs.Written.{items_text, members_text}
use Rattle.cat_tree.specs.Data.{items_of, members_of}
use Rattle.cat_tree.specs.Text.{json_items, json_members}
use Rattle.cat_tree.specs.View.{data_of, entry_of, weight}
use Rattle.cat_tree.proofs.room.+write_within.Given as goal

-- the nodes that a tree has
abbrev pub decreases-write_within : goal.decreases-write_within
decreases-write_within l = weight (data_of l.tree.now)

-- what was appended, with what is left, is the whole
abbrev pub invariant-loop-tree : goal.invariant-loop-tree
invariant-loop-tree l =
    (l.out.items ++ items_text l.later (json_items (items_of (map data_of (drop l.tree-index l.tree-items)))) ≡ l.initial.out.items ++ items_text false (json_items (items_of (map data_of l.tree-items))))
    × (vec_len l.out + length (items_text l.later (json_items (items_of (map data_of (drop l.tree-index l.tree-items))))) ≡ vec_len l.initial.out + length (items_text false (json_items (items_of (map data_of l.tree-items)))))
    × (vec_capacity l.initial.out ≤ vec_capacity l.out)

abbrev pub invariant-loop-key : goal.invariant-loop-key
invariant-loop-key l =
    (l.out.items ++ members_text l.later (json_members (members_of (map entry_of (drop l.key-index l.key-items)))) ≡ l.initial.out.items ++ members_text false (json_members (members_of (map entry_of l.key-items))))
    × (vec_len l.out + length (members_text l.later (json_members (members_of (map entry_of (drop l.key-index l.key-items))))) ≡ vec_len l.initial.out + length (members_text false (json_members (members_of (map entry_of l.key-items)))))
    × (vec_capacity l.initial.out ≤ vec_capacity l.out)
