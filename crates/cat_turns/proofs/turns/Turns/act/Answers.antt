use Rattle.std.proofs.Common.{ap, sym, ◌∙◌, subst, arith}
use Rattle.std.specs.declared.option.Option.TheVariants.{Some}
use Rattle.cat_turns.specs.Law.{GrowsBeside}
use Rattle.cat_turns.proofs.Steps.{beside, counts_stay, grown}
use Rattle.cat_turns.proofs.turns.Turns.act.Goals as goal

pub change-answer-requires-clause-out : goal.change-answer-requires-clause-out
change-answer-requires-clause-out g c =
    let e = c.enter-ticket.ensures.turn in
    let b = beside g.V.Tells.list g.V.Tells.pass_of c.pass.inside.seat.me.0 c.pass.inside.number e.1 c.pass.invariant.2 e.3.1.behind in
    let before = subst (λ x. GrowsBeside g.V.Tells.pass_of x.number x.seen (g.V.Tells.list e.1.value)) c.pass.view_is b in
    (e.1, ap (λ m. m.1) e.3.0, λ p is. c.requires.callable p (subst (λ x. GrowsBeside g.V.Tells.pass_of c.args.pass.now.number c.args.pass.now.seen (g.V.Tells.list x)) (sym is) before))

pub leave-requires-clause-out : goal.leave-requires-clause-out
leave-requires-clause-out g c =
    let e = c.enter-ticket.ensures.turn in
    let b = beside g.V.Tells.list g.V.Tells.pass_of c.pass.inside.seat.me.0 c.pass.inside.number e.1 c.pass.invariant.2 e.3.1.behind in
    let before = subst (λ x. GrowsBeside g.V.Tells.pass_of x.number x.seen (g.V.Tells.list e.1.value)) c.pass.view_is b in
    let d = c.change-answer.ensures.done e.1 (ap (λ m. m.1) e.3.0) in
    let same = c.change-answer.ensures.same.2 ∙ ap (λ m. m.0) e.3.0 in
    let n = counts_stay g.V.Tells.list g.V.Tells.pass_of c.enter-ticket.new.seat.me.0 c.change-answer.new.seat.me.0 e.1 d.0 c.change-answer.ensures.same.2 d.3 d.4 e.3.1.counts e.3.1.most in (
      e.0,
      d.0,
      c.args.pass.now.number,
      e.2,
      (ap (λ v. v.stage) same, d.1, n.0, n.1),
      ap (λ v. v.number) same ∙ (c.pass.invariant.2 ∙ ap (λ x. Some x.number) c.pass.view_is),
      grown g.V.Tells.list g.V.Tells.pass_of _ c.args.pass.now.number e.1 d.0 (ap (λ v. v.seen) same) (c.requires.grows e.1.value d.0.value _ before d.2),
    )

pub invariant_of-pass : goal.invariant_of-pass
invariant_of-pass g c =
    let e = c.enter-ticket.ensures.turn in
    let d = c.change-answer.ensures.done e.1 (ap (λ m. m.1) e.3.0) in
    let left = (c.leave.ensures.left d.0 d.1).0 in
    let same = c.change-answer.ensures.same.2 ∙ ap (λ m. m.0) e.3.0 in
    (ap (λ m. m.1) left, ap (λ m. m.0.stage) left, ap (λ m. m.0.number) left ∙ (ap (λ v. v.number) same ∙ c.pass.invariant.2))

pub returns-clause-same : goal.returns-clause-same
returns-clause-same g c =
    let e = c.enter-ticket.ensures.turn in
    let d = c.change-answer.ensures.done e.1 (ap (λ m. m.1) e.3.0) in
    let left = (c.leave.ensures.left d.0 d.1).0 in
    let same = c.change-answer.ensures.same.2 in
    let came = ap (λ m. m.0.came) left ∙ ap (λ v. v.came) same in
    let gone = ap (λ m. m.0.gone) left ∙ ap (λ v. v.gone) same in
    let was_came = ap (λ x. x.came) c.pass.view_is in
    let was_gone = ap (λ x. x.gone) c.pass.view_is in
    let more = e.3.1.later.0 in
    let more_gone = e.3.1.later.1 in (
      c.leave.ensures.same.0 ∙ (c.change-answer.ensures.same.0 ∙ (c.enter-ticket.ensures.same.0 ∙ ap (λ x. x.turns) c.pass.view_is)),
      ap (λ x. x.number) c.pass.view_is,
      omega (arith, came, was_came, more),
      omega (arith, gone, was_gone, more_gone),
    )

pub returns-clause-acts : goal.returns-clause-acts
returns-clause-acts g c =
    let e = c.enter-ticket.ensures.turn in
    let b = beside g.V.Tells.list g.V.Tells.pass_of c.pass.inside.seat.me.0 c.pass.inside.number e.1 c.pass.invariant.2 e.3.1.behind in
    let before = subst (λ x. GrowsBeside g.V.Tells.pass_of x.number x.seen (g.V.Tells.list e.1.value)) c.pass.view_is b in
    let d = c.change-answer.ensures.done e.1 (ap (λ m. m.1) e.3.0) in
    (e.1.value, d.0.value, before, d.2, ap (λ m. m.0.seen) (c.leave.ensures.left d.0 d.1).0)
