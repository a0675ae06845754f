use Rattle.std.proofs.Common.{◌≡◌, ◌++◌, drop}
use Rattle.cat_collections.specs.Table.{keys}
use Rattle.cat_events.proofs.claims.refs_of.Given as goal

abbrev pub invariant-loop-reference : goal.invariant-loop-reference
invariant-loop-reference l = l.refs ++ keys (drop l.reference-index l.fn.offers) ≡ keys l.fn.offers
