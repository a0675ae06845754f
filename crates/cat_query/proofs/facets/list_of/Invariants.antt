use Rattle.std.proofs.Common.{◌≡◌, ◌++◌, map}
use Rattle.cat_tree.specs.View.{data_of}
use Rattle.cat_collections.specs.Left.{items_left}
use Rattle.cat_query.specs.Facets.{count_data}
use Rattle.cat_query.proofs.facets.list_of.Given as goal

-- the items so far and those that are left are all
abbrev pub invariant-loop-value : goal.invariant-loop-value
invariant-loop-value l =
    goal.iterator-loop-value.can_next l.value-iterator
    × goal.iterator-loop-value.is_finite l.value-iterator
    × (map data_of l.items.items ++ map count_data (items_left l.value-iterator) ≡ map count_data l.counts)
