use Rattle.std.proofs.Common.{◌≡◌, ◌≤◌, ◌+◌, min, ◌^◌}
use Rattle.std.specs.List.{sum_by}
use Rattle.cat_collections.specs.Left.{items_left}
use Rattle.cat_layers.specs.Bytes.{provider_bytes}
use Rattle.cat_layers.proofs.bytes.of_providers.Given as goal

-- what is counted, with what is left, is all; it stands still at the most
abbrev pub invariant-loop-inputs : goal.invariant-loop-inputs
invariant-loop-inputs l =
    goal.iterator-loop-inputs.can_next l.inputs-iterator
    × goal.iterator-loop-inputs.is_finite l.inputs-iterator
    × (l.total ≤ 2 ^ 62)
    × (min (l.total + sum_by provider_bytes (items_left l.inputs-iterator)) (2 ^ 62) ≡ min (sum_by provider_bytes l.providers) (2 ^ 62))
