use Rattle.std.proofs.Common.{◌≡◌}
use Rattle.std.specs.Vec.Iter.{into_iter_items}
use Rattle.cat_collections.specs.Table.{puts}
use Rattle.cat_collections.proofs.map.Map.put_all.Given as goal

-- with the entries that are left put in, the map is the one that is wanted
abbrev pub invariant-loop-key : goal.invariant-loop-key
invariant-loop-key g l =
    (goal.iterator-loop-key g).can_next l.key-iterator
    × (goal.iterator-loop-key g).is_finite l.key-iterator
    × (puts g.K.Key.order (into_iter_items l.key-iterator) l.next ≡ puts g.K.Key.order l.fn.entries.items l.fn.self)
