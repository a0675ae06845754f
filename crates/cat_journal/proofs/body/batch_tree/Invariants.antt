use Rattle.std.proofs.Common.{◌≡◌, ◌++◌, map}
use Rattle.cat_collections.specs.Left.{items_left}
use Rattle.cat_tree.specs.View.{data_of}
use Rattle.cat_journal.specs.Batches.{change_data}
use Rattle.cat_journal.proofs.body.batch_tree.Given as goal

-- the trees so far, and those of the changes that are left, are those of the batch
abbrev pub invariant-loop-entry : goal.invariant-loop-entry
invariant-loop-entry l =
    goal.iterator-loop-entry.can_next l.entry-iterator
    × goal.iterator-loop-entry.is_finite l.entry-iterator
    × (map data_of l.trees.items ++ map change_data (items_left l.entry-iterator) ≡ map change_data l.batch)
