use Rattle.std.proofs.Common.{ap}
use Rattle.cat_model.specs.Settle.{try_finish}
use Rattle.cat_settle.proofs.Gathering.{gathers_none}
use Rattle.cat_settle.proofs.Parts.{came_same, cut_here, rests}
use Rattle.cat_settle.proofs.Stays.{order_stays}
use Rattle.cat_settle.proofs.turn.order_tried.Goals as goal

pub returns-in-Ok-clause-came : goal.returns-in-Ok-clause-came
returns-in-Ok-clause-came g c =
    came_same c.given_tried.result _ _ (λ limit. ap (λ v. try_finish g.L.Layers.rules c.args.settings.now c.args.now limit v c.args.p.now) c.in-Ok.ensures) c.given_tried.new.p c.given_tried.ensures.came

pub returns-in-Err-clause-came : goal.returns-in-Err-clause-came
returns-in-Err-clause-came g c = cut_here _ (order_stays g.L.Layers.rules c.args.settings.now c.args.now c.args.reference.now) c.args.p.now

pub returns-in-Err-clause-goes : goal.returns-in-Err-clause-goes
returns-in-Err-clause-goes g c = rests g.L.Layers.rules c.args.p.now

pub returns-in-Err-clause-gathers : goal.returns-in-Err-clause-gathers
returns-in-Err-clause-gathers g c = gathers_none c.args.reached.now c.args.p.now.state
