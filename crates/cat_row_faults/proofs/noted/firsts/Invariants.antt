use Rattle.std.proofs.Common.{◌≡◌}
use Rattle.std.specs.Option.{option_or}
use Rattle.std.specs.Vec.Iter.{into_iter_items}
use Rattle.cat_collections.specs.Table.{find}
use Rattle.cat_row_faults.proofs.noted.firsts.Given as goal

-- the first entry of a key is made, or among those that are left
abbrev pub invariant-loop-key : goal.invariant-loop-key
invariant-loop-key g l =
    (goal.iterator-loop-key g).can_next l.key-iterator
    × (goal.iterator-loop-key g).is_finite l.key-iterator
    × ((k : g.row.K.Denot) → option_or (find g.K.Key.order k l.made) (find g.K.Key.order k (into_iter_items l.key-iterator)) ≡ find g.K.Key.order k l.fn.entries.items)
