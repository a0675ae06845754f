use Rattle.std.proofs.Common.{◌∙◌}
use Rattle.cat_model.specs.Settle.{stitch_order}
use Rattle.cat_settle.proofs.order.stitch_order_of.Goals as goal

pub returns : goal.returns
returns g c =
    c.in_ok-given.ensures g.L.Layers.rules c.args.m.now ∙ (λ i. stitch_order g.L.Layers.rules c.args.m.now c.args.reference.now (c.get.ensures i) (c.in_ok-parts.ensures i))
