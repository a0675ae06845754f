use Rattle.std.proofs.Common.{◌≡◌}
use Rattle.cat_collections.specs.Left.{items_left}
use Rattle.cat_collections.specs.Table.{keys}
use Rattle.cat_query.specs.Facets.{all_more}
use Rattle.cat_query.proofs.facets.add_all.Given as goal

-- with those that are left counted too, all are
abbrev pub invariant-loop-text : goal.invariant-loop-text
invariant-loop-text l =
    goal.iterator-loop-text.can_next l.text-iterator
    × goal.iterator-loop-text.is_finite l.text-iterator
    × (all_more (keys (items_left l.text-iterator)) l.counts ≡ all_more (keys l.texts) l.fn.counts)
