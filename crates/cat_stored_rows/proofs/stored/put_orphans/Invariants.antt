use Rattle.std.proofs.Common.{◌≡◌, map}
use Rattle.cat_collections.specs.Left.{items_left}
use Rattle.cat_stored_rows.specs.Stored.{put_rows, orphan_row}
use Rattle.cat_stored_rows.proofs.stored.put_orphans.Given as goal

-- the rows that are left make of the rows so far what all make of those at the start
abbrev pub invariant-loop-reference : goal.invariant-loop-reference
invariant-loop-reference l =
    goal.iterator-loop-reference.can_next l.reference-iterator
    × goal.iterator-loop-reference.is_finite l.reference-iterator
    × (put_rows (map orphan_row (items_left l.reference-iterator)) l.made ≡ put_rows (map orphan_row l.orphans) l.initial.made)
