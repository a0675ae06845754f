use Rattle.std.proofs.Common.{◌≡◌}
use Rattle.std.specs.List.{list_all}
use Rattle.cat_collections.specs.Left.{items_left}
use Rattle.cat_state_check.specs.Candidate.{are_items_shown}
use Rattle.cat_state_check.proofs.offers.are_all_items_shown.Given as goal

abbrev pub invariant-loop-provider : goal.invariant-loop-provider
invariant-loop-provider l =
    goal.iterator-loop-provider.can_next l.provider-iterator
    × goal.iterator-loop-provider.is_finite l.provider-iterator
    × (list_all (are_items_shown l.m.rows l.index) (items_left l.provider-iterator) ≡ list_all (are_items_shown l.m.rows l.index) l.m.providers)
