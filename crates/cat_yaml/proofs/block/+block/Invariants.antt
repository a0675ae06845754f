use Rattle.std.proofs.Common.{◌≡◌, ◌+◌, ◌*◌, drop, map}
use Rattle.cat_tree.specs.View.{data_of}
use Rattle.cat_yaml.specs.Block.{block, nested, items, more_items, pairs, more_pairs}
use Rattle.cat_yaml.specs.SeenLine.{seen_line}
use Rattle.cat_yaml.specs.SeenPair.{seen_pairs}
use Rattle.cat_yaml.proofs.block.+block.Given as goal

-- a level more ranks above all that happens a level below
abbrev pub decreases-block : goal.decreases-block
decreases-block l = 8 * l.levels

abbrev pub decreases-nested : goal.decreases-nested
decreases-nested l = 8 * l.levels + 1

abbrev pub decreases-item_rest : goal.decreases-item_rest
decreases-item_rest l = 8 * l.levels + 2

abbrev pub decreases-item : goal.decreases-item
decreases-item l = 8 * l.levels + 3

abbrev pub decreases-items : goal.decreases-items
decreases-items l = 8 * l.levels + 4

abbrev pub decreases-pair_value : goal.decreases-pair_value
decreases-pair_value l = 8 * l.levels + 2

abbrev pub decreases-pair : goal.decreases-pair
decreases-pair l = 8 * l.levels + 3

abbrev pub decreases-pairs : goal.decreases-pairs
decreases-pairs l = 8 * l.levels + 4

abbrev pub decreases-list_node : goal.decreases-list_node
decreases-list_node l = 8 * l.levels + 5

abbrev pub decreases-map_node : goal.decreases-map_node
decreases-map_node l = 8 * l.levels + 5

-- the lines so far are passed over
abbrev pub invariant-nested-loop-i : goal.invariant-nested-loop-i
invariant-nested-loop-i l =
    nested (block l.levels) (map seen_line (drop l.i l.lines)) ≡ nested (block l.levels) (map seen_line l.lines)

-- the items so far, with those that begin on the lines that are left, are all items
abbrev pub invariant-items-loop-i : goal.invariant-items-loop-i
invariant-items-loop-i l =
    more_items (block l.levels) l.indent (map data_of l.found.items) (map seen_line (drop l.i l.below))
    ≡ items (block l.levels) (seen_line l.line) (map seen_line l.below)

-- the entries so far, with those that begin on the lines that are left, are all entries
abbrev pub invariant-pairs-loop-i : goal.invariant-pairs-loop-i
invariant-pairs-loop-i l =
    more_pairs (block l.levels) l.levels l.indent (seen_pairs l.found.entries) (map seen_line (drop l.i l.below))
    ≡ pairs (block l.levels) l.levels (seen_line l.line) (map seen_line l.below)
