use Rattle.std.proofs.Common.{◌∙◌, sym}
use Rattle.cat_collections.specs.Table.{put}
use Rattle.cat_model.proofs.Indexed.{filled}
use Rattle.cat_model.proofs.rows.with_set.Goals as goal

pub returns : goal.returns
returns g c = c.in_ok-put.ensures ∙ ((λ i. put g.K.Key.order (c.in_ok-duplicate.ensures i) c.args.set (c.in_ok-next.ensures i)) ∙ filled g.K.Key.order c.args.key.now c.args.set c.args.index.now (sym c.if-is_empty.ensures))
