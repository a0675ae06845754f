use Rattle.std.proofs.Common.{◌≡◌, map, drop}
use Rattle.std.specs.Option.{option_copied}
use Rattle.cat_tree.specs.Data.{items_of}
use Rattle.cat_tree.specs.View.{data_of}
use Rattle.cat_state_parts.specs.Rows.{relation_items, has_row}
use Rattle.cat_search.proofs.document.has_relation_row.Given as goal

-- what is found is found in what is left
abbrev pub invariant-loop-relation : goal.invariant-loop-relation
invariant-loop-relation l =
    has_row l.key (option_copied l.value) (relation_items (items_of (map data_of (drop l.relation-index l.relation-items))))
    ≡ has_row l.key (option_copied l.value) (relation_items (items_of (map data_of l.relation-items)))
