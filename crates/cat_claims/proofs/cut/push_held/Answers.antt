use Rattle.std.proofs.Common.{rules}
use Rattle.cat_model.specs.Catalogue.{row_at}
use Rattle.cat_model.specs.Mend.{held_by}
use Rattle.cat_claims.proofs.Levels.{push_more}
use Rattle.cat_claims.proofs.cut.push_held.Goals as goal

pub loop-arrival-preserved : goal.loop-arrival-preserved
loop-arrival-preserved c = push_more (λ a. held_by c.args.holders.now a (row_at c.args.rows.now a)) c.args.arrivals.now c.loop-arrival.arrival-index 0 c.args.refs.now.items c.loop-arrival.refs.items c.push_some.new.refs.items
    c.in_ok-held_ref.field-0 (search rules) c.in_ok-push_some.ensures c.loop-arrival.invariant (search rules)
