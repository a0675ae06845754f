use Rattle.std.proofs.Common.{◌≡◌, drop, map}
use Rattle.cat_tree.specs.Data.{items_of}
use Rattle.cat_tree.specs.View.{data_of}
use Rattle.cat_journal.specs.Parsed.{changes_of, with_front}
use Rattle.cat_journal.proofs.body.changes_of.Given as goal

-- the changes so far, with those of the trees that are left, are those of all trees
abbrev pub invariant-loop-tree : goal.invariant-loop-tree
invariant-loop-tree l =
    with_front l.changes.items (changes_of (items_of (map data_of (drop l.tree-index l.trees))))
    ≡ changes_of (items_of (map data_of l.trees))
