use Rattle.std.proofs.Common.{◌≡◌, map}
use Rattle.cat_collections.specs.Left.{items_left}
use Rattle.cat_stored_rows.specs.Stored.{put_rows, provider_row}
use Rattle.cat_stored_rows.proofs.stored.put_providers.Given as goal

-- the rows that are left make of the rows so far what all make of those at the start
abbrev pub invariant-loop-name : goal.invariant-loop-name
invariant-loop-name l =
    goal.iterator-loop-name.can_next l.name-iterator
    × goal.iterator-loop-name.is_finite l.name-iterator
    × (put_rows (map provider_row (items_left l.name-iterator)) l.made ≡ put_rows (map provider_row l.providers) l.initial.made)
