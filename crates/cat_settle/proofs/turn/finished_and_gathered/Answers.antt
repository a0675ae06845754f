use Rattle.std.proofs.Common.{subst}
use Rattle.cat_affected.specs.Gathered.{IsGathered}
use Rattle.cat_settle.proofs.Gathering.{finish_gathers}
use Rattle.cat_settle.proofs.turn.finished_and_gathered.Goals as goal

pub returns-clause-gathers : goal.returns-clause-gathers
returns-clause-gathers g c =
    let m = c.args.p.now.state in
    let q = c.finished-came.new.p in
    finish_gathers g.L.Layers.rules c.args.settings.now c.args.p.now q c.args.order.now c.args.now c.finished-came.result c.requires.steady.sound c.finished-came.ensures.moved c.args.reached.now c.gathered.result
    (subst (λ old. IsGathered old m c.args.order.now.reference q.state c.gathered.result) c.take.ensures.value (c.gathered.ensures m c.rows_before-before.ensures))
