use Rattle.std.proofs.Common.{◌≡◌, nat_cmp}
use Rattle.std.specs.Ordering.{eq_by_cmp}
use Rattle.cat_claims.specs.Change.{among}
use Rattle.cat_claims.specs.Renewed.{renewed}
use Rattle.cat_claims.proofs.Renewed.{left_from}
use Rattle.cat_claims.proofs.replaced.renew_all.Given as goal

abbrev pub invariant-loop-arrival : goal.invariant-loop-arrival
invariant-loop-arrival g l =
    left_from l.origin (g.O.Offering.offers l.offers) (λ x a r. eq_by_cmp nat_cmp a x) l.arrival-index l.arrivals l.rows ≡ renewed l.origin (g.O.Offering.offers l.offers) (λ a r. among a l.arrivals) l.fn.rows
