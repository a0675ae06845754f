use Rattle.std.proofs.Common.{◌≡◌, ◌++◌, map, drop}
use Rattle.cat_query.specs.Query.{values_named}
use Rattle.cat_requests.proofs.parameters.values_named.Given as goal

-- the values so far and those that are left are all
abbrev pub invariant-loop-other : goal.invariant-loop-other
invariant-loop-other l = map (λ t. t.now) l.values.items ++ values_named l.name (drop l.other-index l.parameters) ≡ values_named l.name l.parameters
