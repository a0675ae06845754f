use Rattle.std.proofs.Common.{◌≡◌, ◌++◌, map, drop}
use Rattle.cat_tree.specs.Data.{items_of}
use Rattle.cat_tree.specs.View.{data_of}
use Rattle.cat_state_parts.specs.Rows.{relation_items}
use Rattle.cat_search.specs.Terms.{terms}
use Rattle.cat_search.proofs.terms.add_relations.Given as goal

-- the terms so far and those that are left are all
abbrev pub invariant-loop-relation : goal.invariant-loop-relation
invariant-loop-relation l =
    l.found.items ++ terms (relation_items (items_of (map data_of (drop l.relation-index l.relation-items))))
    ≡ l.fn.found.items ++ terms (relation_items (items_of (map data_of l.relation-items)))
