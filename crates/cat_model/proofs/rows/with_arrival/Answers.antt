use Rattle.std.proofs.Common.{◌∙◌}
use Rattle.cat_collections.specs.Table.{put}
use Rattle.cat_model.proofs.rows.with_arrival.Goals as goal

pub returns-clause-index : goal.returns-clause-index
returns-clause-index g c = c.in_ok-put.ensures ∙ (λ i. put g.K.Key.order (c.in_ok-duplicate.ensures i) (c.in_ok-set.ensures.set i) (c.in_ok-next.ensures i))
