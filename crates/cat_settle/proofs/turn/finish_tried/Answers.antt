use Rattle.std.proofs.Common.{sym, ◌∙◌}
use Rattle.cat_model.specs.Step.Event.{Finish}
use Rattle.cat_settle.proofs.Called.{called_came, called_goes, called_within}
use Rattle.cat_settle.proofs.Gathering.{gathers_none}
use Rattle.cat_settle.proofs.Parts.{rests, stopped_done}
use Rattle.cat_settle.proofs.turn.finish_tried.Goals as goal

pub returns-then-is_some-clause-came : goal.returns-then-is_some-clause-came
returns-then-is_some-clause-came g c = stopped_done g.L.Layers.rules c.args.settings.now (Finish c.args.order.now c.args.now) c.args.p.now (sym c.is_some.ensures ∙ c.if-is_some.true)

pub returns-then-is_some-clause-goes : goal.returns-then-is_some-clause-goes
returns-then-is_some-clause-goes g c = rests g.L.Layers.rules c.args.p.now

pub returns-clause-came : goal.returns-clause-came
returns-clause-came g c = called_came g.L.Layers.rules c.args.settings.now (Finish c.args.order.now c.args.now) c.args.p.now c.finished_and_gathered.new.p (sym c.is_some.ensures ∙ c.if-is_some.false) c.finished_and_gathered.result c.finished_and_gathered.ensures.moved

pub returns-clause-goes : goal.returns-clause-goes
returns-clause-goes g c = called_goes g.L.Layers.rules c.args.settings.now (Finish c.args.order.now c.args.now) c.args.p.now c.finished_and_gathered.new.p (sym c.is_some.ensures ∙ c.if-is_some.false) c.finished_and_gathered.result c.finished_and_gathered.ensures.moved

pub returns-clause-within : goal.returns-clause-within
returns-clause-within g c = λ h. called_within g.L.Layers.rules c.args.settings.now (Finish c.args.order.now c.args.now) c.args.p.now c.finished_and_gathered.new.p (sym c.is_some.ensures ∙ c.if-is_some.false) c.finished_and_gathered.result c.args.most c.if-p-most.false c.finished_and_gathered.ensures.moved

pub returns-then-is_some-clause-gathers : goal.returns-then-is_some-clause-gathers
returns-then-is_some-clause-gathers g c = gathers_none c.args.reached.now c.args.p.now.state

pub returns-then-p-most-clause-gathers : goal.returns-then-p-most-clause-gathers
returns-then-p-most-clause-gathers g c = gathers_none c.args.reached.now c.args.p.now.state
