use Rattle.std.proofs.Common.{◌≡◌, map, drop}
use Rattle.cat_query.specs.Query.{filters_from}
use Rattle.cat_query.proofs.Parted.{after_filters}
use Rattle.cat_query.proofs.parts.filters.Given as goal

-- the filters so far and those that are left are all
abbrev pub invariant-loop-place : goal.invariant-loop-place
invariant-loop-place l =
    filters_from 0 (map (λ t. t.now) l.texts) ≡ after_filters l.filters.items (filters_from l.place (map (λ t. t.now) (drop l.place l.texts)))
