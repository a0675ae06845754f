use Rattle.std.proofs.Common.{◌≡◌, ◌++◌}
use Rattle.cat_collections.specs.Table.{keys}
use Rattle.cat_collections.specs.Left.{items_left}
use Rattle.cat_collections.proofs.map.Map.keys.Given as goal

-- the names so far and the keys that are left are all keys
abbrev pub invariant-loop-entry : goal.invariant-loop-entry
invariant-loop-entry g l =
    (goal.iterator-loop-entry g).can_next l.entry-iterator
    × (goal.iterator-loop-entry g).is_finite l.entry-iterator
    × (l.names.items ++ keys (items_left l.entry-iterator) ≡ keys l.fn.self)
