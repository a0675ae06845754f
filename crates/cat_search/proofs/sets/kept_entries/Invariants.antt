use Rattle.std.proofs.Common.{◌≡◌, ◌++◌}
use Rattle.std.specs.List.{filter}
use Rattle.cat_collections.specs.Left.{items_left}
use Rattle.cat_search.specs.Index.{in_all}
use Rattle.cat_search.proofs.sets.kept_entries.Given as goal

-- the references so far and those that are kept of what is left are all
abbrev pub invariant-loop-reference : goal.invariant-loop-reference
invariant-loop-reference l =
    goal.iterator-loop-reference.can_next l.reference-iterator
    × goal.iterator-loop-reference.is_finite l.reference-iterator
    × (l.kept.items ++ filter (λ e. in_all l.sets e.0) (items_left l.reference-iterator) ≡ filter (λ e. in_all l.sets e.0) l.set)
