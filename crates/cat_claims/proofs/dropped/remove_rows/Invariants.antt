use Rattle.std.proofs.Common.{◌≡◌, take, nat_cmp}
use Rattle.cat_claims.specs.Touched.{outside}
use Rattle.cat_claims.proofs.dropped.remove_rows.Given as goal

abbrev pub invariant-loop-arrival : goal.invariant-loop-arrival
invariant-loop-arrival l = l.rows ≡ outside nat_cmp (take l.arrival-index l.arrivals) l.fn.rows
