use Rattle.std.proofs.Common.{nat_cmp, rules, sym, ◌∙◌}
use Rattle.std.specs.Ordering.{eq_by_cmp}
use Rattle.cat_claims.proofs.Renewed.{no_item, one_item}
use Rattle.cat_claims.proofs.replaced.renew_all.Goals as goal

pub loop-arrival-preserved : goal.loop-arrival-preserved
loop-arrival-preserved g c =
    one_item c.args.origin.now (g.O.Offering.offers c.args.offers.now) (λ x a r. eq_by_cmp nat_cmp a x) c.args.arrivals.now c.loop-arrival.arrival-index _ 0 c.loop-arrival.rows c.renew.new.rows c.loop-arrival-test.true
    (search rules) c.in_ok-renew.ensures
    ∙ c.loop-arrival.invariant

pub returns : goal.returns
returns g c =
    sym (no_item c.args.origin.now (g.O.Offering.offers c.args.offers.now) (λ x a r. eq_by_cmp nat_cmp a x) c.args.arrivals.now c.loop-arrival.arrival-index c.loop-arrival.rows c.loop-arrival-test.false c.in_order.ensures)
    ∙ c.loop-arrival.invariant
