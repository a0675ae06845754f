use Rattle.cat_model.specs.Settle.{order, try_event, try_finish}
use Rattle.cat_model.specs.Step.Event.{TakeAt}
use Rattle.cat_settle.proofs.Gathering.{gathers_on, still_gathers}
use Rattle.cat_settle.proofs.Parts.{cut_then, done_then, goes_on}
use Rattle.cat_settle.proofs.Stays.{order_stays}
use Rattle.cat_settle.proofs.turn.taken_and_finished.Goals as goal

pub returns-in-Ok-clause-came : goal.returns-in-Ok-clause-came
returns-in-Ok-clause-came g c =
    done_then g.L.Layers.rules (λ limit. try_event g.L.Layers.rules c.args.settings.now limit (TakeAt c.args.reference.now c.args.now) c.args.p.now)
    (λ limit q. try_finish g.L.Layers.rules c.args.settings.now c.args.now limit (order g.L.Layers.rules q.state c.args.reference.now) q)
    (order_stays g.L.Layers.rules c.args.settings.now c.args.now c.args.reference.now) c.take_tried.new.p c.in-Ok.ensures.came c.order_tried.new.p c.order_tried.ensures.goes c.order_tried.result c.order_tried.ensures.came

pub returns-in-Ok-clause-goes : goal.returns-in-Ok-clause-goes
returns-in-Ok-clause-goes g c = goes_on g.L.Layers.rules c.args.p.now c.take_tried.new.p c.order_tried.new.p c.in-Ok.ensures.goes c.order_tried.ensures.goes

pub returns-in-Err-clause-came : goal.returns-in-Err-clause-came
returns-in-Err-clause-came g c =
    cut_then (λ limit. try_event g.L.Layers.rules c.args.settings.now limit (TakeAt c.args.reference.now c.args.now) c.args.p.now)
    (λ limit q. try_finish g.L.Layers.rules c.args.settings.now c.args.now limit (order g.L.Layers.rules q.state c.args.reference.now) q)
    (order_stays g.L.Layers.rules c.args.settings.now c.args.now c.args.reference.now) c.take_tried.new.p c.in-Err.ensures.came

pub returns-in-Ok-clause-gathers : goal.returns-in-Ok-clause-gathers
returns-in-Ok-clause-gathers g c =
    gathers_on c.args.reached.now c.args.reached.now c.order_tried.new.reached c.args.p.now.state c.take_tried.new.p.state c.order_tried.new.p.state
    (still_gathers c.args.reached.now c.args.p.now.state c.take_tried.new.p.state c.take_tried.ensures.still) c.order_tried.ensures.gathers

pub returns-in-Err-clause-gathers : goal.returns-in-Err-clause-gathers
returns-in-Err-clause-gathers g c = still_gathers c.args.reached.now c.args.p.now.state c.take_tried.new.p.state c.take_tried.ensures.still
