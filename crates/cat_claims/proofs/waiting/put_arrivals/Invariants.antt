use Rattle.std.proofs.Common.{◌++◌, take}
use Rattle.cat_collections.specs.Table.{keys}
use Rattle.cat_claims.specs.Change.{AreAmong}
use Rattle.cat_claims.proofs.waiting.put_arrivals.Given as goal

abbrev pub invariant-loop-arrival : goal.invariant-loop-arrival
invariant-loop-arrival l = AreAmong (take l.arrival-index l.arrivals ++ keys l.fn.waiting) (keys l.waiting)
