use Rattle.std.proofs.Common.{◌≡◌, map, drop}
use Rattle.cat_tree.specs.Data.{items_of}
use Rattle.cat_tree.specs.View.{data_of}
use Rattle.cat_inputs.specs.Body.{with_front, entries_from}
use Rattle.cat_inputs.specs.Lent.{entry_of}
use Rattle.cat_inputs.proofs.body.entries_from.Given as goal

-- the items so far, with those of the members that are left, are those of all members
abbrev pub invariant-loop-tree : goal.invariant-loop-tree
invariant-loop-tree l =
    with_front (map entry_of l.entries.items) (entries_from l.place (items_of (map data_of (drop l.tree-index l.trees))))
    ≡ entries_from l.place (items_of (map data_of l.trees))
