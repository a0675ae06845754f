use Rattle.std.proofs.Common.{ap, sym, ◌∙◌, cond}
use Rattle.cat_model.specs.Settle.{is_due, try_take_and_finish}
use Rattle.cat_settle.proofs.Gathering.{gathers_none}
use Rattle.cat_settle.proofs.Parts.{came_same, nothing_done, rests, same_done}
use Rattle.cat_settle.proofs.turn.turned.Goals as goal

pub returns-then-due-clause-came : goal.returns-then-due-clause-came
returns-then-due-clause-came g c =
    came_same c.taken_and_finished.result _ _ (λ limit. sym (ap (λ b. cond b (try_take_and_finish g.L.Layers.rules c.args.settings.now c.args.now limit c.args.reference.now c.args.p.now) c.args.p.now)
    (sym (c.due.ensures ∙ ap (is_due c.args.now) c.get.ensures) ∙ c.if-due.true))) c.taken_and_finished.new.p c.taken_and_finished.ensures.came

pub returns-else-due-clause-came : goal.returns-else-due-clause-came
returns-else-due-clause-came g c =
    same_done (λ limit. c.args.p.now) _ (λ limit. sym (ap (λ b. cond b (try_take_and_finish g.L.Layers.rules c.args.settings.now c.args.now limit c.args.reference.now c.args.p.now) c.args.p.now)
    (sym (c.due.ensures ∙ ap (is_due c.args.now) c.get.ensures) ∙ c.if-due.false))) c.args.p.now (nothing_done c.args.p.now)

pub returns-else-due-clause-goes : goal.returns-else-due-clause-goes
returns-else-due-clause-goes g c = rests g.L.Layers.rules c.args.p.now

pub returns-else-due-clause-gathers : goal.returns-else-due-clause-gathers
returns-else-due-clause-gathers g c = gathers_none c.args.reached.now c.args.p.now.state
