use Rattle.std.proofs.Common.{◌≡◌, ◌++◌, map}
use Rattle.cat_collections.specs.Left.{items_left}
use Rattle.cat_search.proofs.index.all_entries.Given as goal

-- the entries so far and those that are left are all
abbrev pub invariant-loop-entry : goal.invariant-loop-entry
invariant-loop-entry l =
    goal.iterator-loop-entry.can_next l.entry-iterator
    × goal.iterator-loop-entry.is_finite l.entry-iterator
    × (map (λ e. e.now) l.entries.items ++ items_left l.entry-iterator ≡ l.documents)
