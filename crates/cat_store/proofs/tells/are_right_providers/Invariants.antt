use Rattle.std.proofs.Common.{◌≡◌}
use Rattle.std.specs.List.{list_all}
use Rattle.cat_collections.specs.Left.{items_left}
use Rattle.cat_store.specs.Tells.{is_right_provider}
use Rattle.cat_store.proofs.tells.are_right_providers.Given as goal

abbrev pub invariant-loop-inputs : goal.invariant-loop-inputs
invariant-loop-inputs l =
    goal.iterator-loop-inputs.can_next l.inputs-iterator
    × goal.iterator-loop-inputs.is_finite l.inputs-iterator
    × (list_all is_right_provider (items_left l.inputs-iterator) ≡ list_all is_right_provider l.providers)
