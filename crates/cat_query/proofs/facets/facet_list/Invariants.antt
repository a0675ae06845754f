use Rattle.std.proofs.Common.{◌≡◌, ◌++◌, map}
use Rattle.cat_tree.specs.View.{entry_of}
use Rattle.cat_collections.specs.Left.{items_left}
use Rattle.cat_query.specs.Facets.{facet_data}
use Rattle.cat_pages.specs.Page.{pair_seen}
use Rattle.cat_query.proofs.facets.facet_list.Given as goal

-- the entries so far and those that are left are all
abbrev pub invariant-loop-key : goal.invariant-loop-key
invariant-loop-key l =
    goal.iterator-loop-key.can_next l.key-iterator
    × goal.iterator-loop-key.is_finite l.key-iterator
    × (map entry_of l.entries.items ++ map (λ e. (e.0, facet_data (map pair_seen l.documents) e.0)) (items_left l.key-iterator)
    ≡ map (λ e. (e.0, facet_data (map pair_seen l.documents) e.0)) l.keys)
