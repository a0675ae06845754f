use Rattle.std.proofs.Common.{rules, []}
use Rattle.std.specs.Option.{option_map}
use Rattle.cat_model.specs.Rows.{row_at}
use Rattle.cat_claims.proofs.Levels.{push_more}
use Rattle.cat_mutations.proofs.change.references_of.Goals as goal

pub loop-arrival-preserved : goal.loop-arrival-preserved
loop-arrival-preserved c = push_more (λ a. option_map (λ row. row.reference) (row_at c.args.rows.now a)) c.args.arrivals.now c.loop-arrival.arrival-index 0 [] c.loop-arrival.references.items c.push_reference.new.references.items
    _ (search rules) c.in_ok-push_reference.ensures c.loop-arrival.invariant (search rules)
