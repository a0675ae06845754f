use Rattle.std.proofs.Common.{refl}
use Rattle.cat_desk.specs.Deed.Deed.{Settle}
use Rattle.cat_desk.proofs.Acting.{settles}
use Rattle.cat_desk.proofs.timed.settle_reaching.Goals as goal

pub returns-clause-acts : goal.returns-clause-acts
returns-clause-acts g c =
    settles g.L.Layers.rules c.args.now c.args.catalogue.now c.settle_reaching-came.new.self c.settle_reaching-came.ensures.settings Settle refl c.settle_reaching-came.result.0
    c.settle_reaching-came.ensures.state c.settle_reaching-came.ensures.counts c.settle_reaching-came.ensures.ended c.settle_reaching-came.ensures.cut c.settled.result c.settled.ensures
