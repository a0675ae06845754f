use Rattle.std.proofs.Common.{◌≡◌, ◌≤◌, ◌+◌, min, ◌^◌}
use Rattle.std.specs.List.{sum_by}
use Rattle.cat_collections.specs.Left.{items_left}
use Rattle.cat_layers.specs.Bytes.{entry_bytes}
use Rattle.cat_layers.proofs.bytes.with_shelf.Given as goal

-- what is counted, with what is left, is all; it stands still at the most
abbrev pub invariant-loop-name : goal.invariant-loop-name
invariant-loop-name l =
    goal.iterator-loop-name.can_next l.name-iterator
    × goal.iterator-loop-name.is_finite l.name-iterator
    × (l.total ≤ 2 ^ 62)
    × (min (l.total + sum_by entry_bytes (items_left l.name-iterator)) (2 ^ 62) ≡ min (l.before + sum_by entry_bytes l.shelf) (2 ^ 62))
