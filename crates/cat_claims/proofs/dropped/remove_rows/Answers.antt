use Rattle.std.proofs.Common.{rules}
use Rattle.std.specs.Cmp.{nat_cmp_total}
use Rattle.std.specs.FinMap.{nat_cmp-IsAntisymmetric}
use Rattle.cat_claims.proofs.Outside.{outside_more, outside_none}
use Rattle.cat_claims.proofs.dropped.remove_rows.Goals as goal

pub loop-arrival-preserved : goal.loop-arrival-preserved
loop-arrival-preserved c = outside_more nat_cmp_total nat_cmp-IsAntisymmetric c.args.arrivals.now c.loop-arrival.arrival-index 0 c.args.rows.now c.loop-arrival.rows c.remove_row.new.rows (search rules) (search rules) c.loop-arrival.invariant

pub loop-arrival-init : goal.loop-arrival-init
loop-arrival-init c = outside_none nat_cmp_total nat_cmp-IsAntisymmetric c.args.rows.now c.in_order.ensures
