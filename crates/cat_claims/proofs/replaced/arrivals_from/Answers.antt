use Rattle.cat_claims.proofs.Added.{arrivals_more}
use Rattle.cat_claims.proofs.replaced.arrivals_from.Goals as goal

pub loop-arrival-preserved : goal.loop-arrival-preserved
loop-arrival-preserved c = arrivals_more c.args.first c.loop-arrival.arrival c.loop-arrival.arrivals c.loop-arrival.invariant c.put.new.self c.in_ok-put.ensures
