use Rattle.std.proofs.Common.{◌≡◌}
use Rattle.cat_collections.specs.Left.{items_left}
use Rattle.cat_store.proofs.open.are_same.Given as goal

-- all rows are the same just where those that are left are
abbrev pub invariant-loop-row : goal.invariant-loop-row
invariant-loop-row l =
    goal.iterator-loop-row.can_next l.row-iterator
    × goal.iterator-loop-row.is_finite l.row-iterator
    × (items_left l.row-iterator ≡ items_left l.others → l.left ≡ l.right)
    × (l.left ≡ l.right → items_left l.row-iterator ≡ items_left l.others)
