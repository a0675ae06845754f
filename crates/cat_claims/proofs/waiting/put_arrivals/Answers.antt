use Rattle.std.proofs.Common.{rules}
use Rattle.cat_claims.proofs.Waits.{one_waits_too}
use Rattle.cat_claims.proofs.waiting.put_arrivals.Goals as goal

pub loop-arrival-preserved : goal.loop-arrival-preserved
loop-arrival-preserved c = one_waits_too c.args.arrivals.now c.loop-arrival.arrival-index 0 tt c.args.waiting.now c.loop-arrival.waiting c.put.new.self (search rules) (search rules) c.loop-arrival.invariant
