use Rattle.std.proofs.Common.{ap, sym}
use Rattle.cat_model.specs.Settle.{try_finish}
use Rattle.cat_settle.proofs.Gathering.{gathers_none}
use Rattle.cat_settle.proofs.Parts.{came_same, nothing_done, rests, same_done}
use Rattle.cat_settle.proofs.turn.given_tried.Goals as goal

pub returns-in-Some-clause-came : goal.returns-in-Some-clause-came
returns-in-Some-clause-came g c =
    came_same c.finish_tried.result _ _ (λ limit. sym (ap (λ v. try_finish g.L.Layers.rules c.args.settings.now c.args.now limit v c.args.p.now) c.in-Some.is)) c.finish_tried.new.p c.finish_tried.ensures.came

pub returns-in-None-clause-came : goal.returns-in-None-clause-came
returns-in-None-clause-came g c =
    same_done (λ limit. c.args.p.now) _ (λ limit. sym (ap (λ v. try_finish g.L.Layers.rules c.args.settings.now c.args.now limit v c.args.p.now) c.in-None.is)) c.args.p.now (nothing_done c.args.p.now)

pub returns-in-None-clause-goes : goal.returns-in-None-clause-goes
returns-in-None-clause-goes g c = rests g.L.Layers.rules c.args.p.now

pub returns-in-None-clause-gathers : goal.returns-in-None-clause-gathers
returns-in-None-clause-gathers g c = gathers_none c.args.reached.now c.args.p.now.state
