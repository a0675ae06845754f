use Rattle.std.proofs.Common.{◌≡◌, drop}
use Rattle.cat_collections.specs.Table.{puts}
use Rattle.cat_collections.proofs.map.Map.put_map.Given as goal

-- with the entries that are left put in, the map is the one that is wanted
abbrev pub invariant-loop-place : goal.invariant-loop-place
invariant-loop-place g l = puts g.K.Key.order (drop l.place l.other) l.next ≡ puts g.K.Key.order l.other l.fn.self
