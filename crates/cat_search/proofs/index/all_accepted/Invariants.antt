use Rattle.std.proofs.Common.{◌≡◌, [], drop}
use Rattle.cat_search.specs.Index.{all_accepted}
use Rattle.cat_search.proofs.index.all_accepted.Given as goal

-- with what is found for the filters that are left, it is all that is found
abbrev pub invariant-loop-filter : goal.invariant-loop-filter
invariant-loop-filter l = all_accepted l.lists (drop l.filter-index l.filters) l.found ≡ all_accepted l.lists l.filters []
