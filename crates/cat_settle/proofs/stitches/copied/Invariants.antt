use Rattle.std.proofs.Common.{◌≡◌, ◌++◌}
use Rattle.cat_collections.specs.Left.{items_left}
use Rattle.cat_settle.proofs.stitches.copied.Given as goal

-- the copies so far and the marks that are left are all marks
abbrev pub invariant-loop-reference : goal.invariant-loop-reference
invariant-loop-reference l =
    goal.iterator-loop-reference.can_next l.reference-iterator
    × goal.iterator-loop-reference.is_finite l.reference-iterator
    × (l.made.items ++ items_left l.reference-iterator ≡ l.marks)
