use Rattle.std.proofs.Common.{◌≡◌, ◌<◌, ◌≤◌, ℕ, true}
use Rattle.cat_collections.specs.Table.{keys}
use Rattle.cat_claims.specs.Change.{among}
use Rattle.cat_claims.proofs.replaced.arrivals_from.Given as goal

abbrev pub invariant-loop-arrival : goal.invariant-loop-arrival
invariant-loop-arrival l = (a : ℕ) → l.first ≤ a → a < l.arrival → among a (keys l.arrivals) ≡ true
