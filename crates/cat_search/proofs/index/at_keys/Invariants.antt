use Rattle.std.proofs.Common.{◌≡◌, ◌++◌, map, drop}
use Rattle.cat_search.specs.Index.{at_key}
use Rattle.cat_search.proofs.index.at_keys.Given as goal

-- the sets so far and those of the conditions that are left are all
abbrev pub invariant-loop-condition : goal.invariant-loop-condition
invariant-loop-condition l =
    l.sets.items ++ map (λ c. at_key l.keyed c.key) (drop l.condition-index l.conditions) ≡ map (λ c. at_key l.keyed c.key) l.conditions
