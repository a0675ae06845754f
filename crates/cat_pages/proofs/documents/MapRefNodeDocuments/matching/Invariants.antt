use Rattle.std.proofs.Common.{◌≡◌, ◌++◌, map}
use Rattle.cat_search.specs.Filter.{matching}
use Rattle.cat_collections.specs.Left.{items_left}
use Rattle.cat_pages.specs.Page.{pair_seen}
use Rattle.cat_pages.proofs.documents.MapRefNodeDocuments.matching.Given as goal

-- those that matched so far and those of the documents that are left are all
abbrev pub invariant-loop-reference : goal.invariant-loop-reference
invariant-loop-reference l =
    goal.iterator-loop-reference.can_next l.reference-iterator
    × goal.iterator-loop-reference.is_finite l.reference-iterator
    × (map pair_seen l.found.items ++ matching l.filters (items_left l.reference-iterator) ≡ matching l.filters l.self)
