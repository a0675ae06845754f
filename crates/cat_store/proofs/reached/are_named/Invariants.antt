use Rattle.std.proofs.Common.{◌≡◌}
use Rattle.std.specs.List.{list_all}
use Rattle.cat_types.specs.Names as names
use Rattle.cat_collections.specs.Left.{items_left}
use Rattle.cat_store.proofs.reached.are_named.Given as goal

-- of those that are left all have names where all do
abbrev pub invariant-loop-name : goal.invariant-loop-name
invariant-loop-name l =
    goal.iterator-loop-name.can_next l.name-iterator
    × goal.iterator-loop-name.is_finite l.name-iterator
    × (list_all (λ e. names.is_name e.0) (items_left l.name-iterator) ≡ list_all (λ e. names.is_name e.0) l.m.providers)
