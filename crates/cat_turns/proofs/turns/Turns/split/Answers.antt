use Rattle.std.proofs.Common.{ap, sym, ◌∙◌, subst, arith}
use Rattle.cat_turns.specs.Law.{GrowsBeside}
use Rattle.cat_turns.proofs.Results.{err_too, ok_both, ok_too}
use Rattle.cat_turns.proofs.Steps.{all_above, beside, carries, not_grown}
use Rattle.cat_turns.proofs.turns.Turns.split.Goals as goal

pub split_out-answer-requires-clause-out : goal.split_out-answer-requires-clause-out
split_out-answer-requires-clause-out g c = let e = c.enter-ticket.ensures.turn in (e.0, e.1, carries g.V.Tells.list g.V.Tells.pass_of c.pass.inside.seat.me.0 e.0 e.1 c.enter-ticket.new.seat.me e.3)

pub leave-requires-clause-out : goal.leave-requires-clause-out
leave-requires-clause-out g c =
    let e = c.enter-ticket.ensures.turn in
    let same = c.split_out-answer.ensures.same.2 in
    let s = c.split_out-answer.ensures.out e.0 e.1 (carries g.V.Tells.list g.V.Tells.pass_of c.pass.inside.seat.me.0 e.0 e.1 c.enter-ticket.new.seat.me e.3) in (
      e.0,
      s.0,
      c.pass.inside.number,
      e.2,
      s.1,
      same.1 ∙ (ap (λ m. m.0.number) e.3.0 ∙ c.pass.invariant.2),
      not_grown g.V.Tells.list g.V.Tells.pass_of c.split_out-answer.new.seat.me.0.seen c.pass.inside.number e.1 s.0 (same.2 ∙ ap (λ m. m.0.seen) e.3.0) s.2,
    )

pub invariant_of-pass : goal.invariant_of-pass
invariant_of-pass g c =
    let e = c.enter-ticket.ensures.turn in
    let s = c.split_out-answer.ensures.out e.0 e.1 (carries g.V.Tells.list g.V.Tells.pass_of c.pass.inside.seat.me.0 e.0 e.1 c.enter-ticket.new.seat.me e.3) in
    let left = (c.leave.ensures.left s.0 s.1.1).0 in
    (ap (λ m. m.1) left, ap (λ m. m.0.stage) left, ap (λ m. m.0.number) left ∙ (c.split_out-answer.ensures.same.2.1 ∙ (ap (λ m. m.0.number) e.3.0 ∙ c.pass.invariant.2)))

pub returns-clause-same : goal.returns-clause-same
returns-clause-same g c =
    let e = c.enter-ticket.ensures.turn in
    let s = c.split_out-answer.ensures.out e.0 e.1 (carries g.V.Tells.list g.V.Tells.pass_of c.pass.inside.seat.me.0 e.0 e.1 c.enter-ticket.new.seat.me e.3) in
    let left = (c.leave.ensures.left s.0 s.1.1).0 in
    let came = ap (λ m. m.0.came) left in
    let gone = ap (λ m. m.0.gone) left in
    let was_came = ap (λ x. x.came) c.pass.view_is in
    let was_gone = ap (λ x. x.gone) c.pass.view_is in
    let more = e.3.1.later.0 in
    let more_gone = e.3.1.later.1 in
    let split = c.split_out-answer.ensures.later.0 in
    let split_gone = c.split_out-answer.ensures.later.1 in (
      c.leave.ensures.same.0 ∙ (c.split_out-answer.ensures.same.0 ∙ (c.enter-ticket.ensures.same.0 ∙ ap (λ x. x.turns) c.pass.view_is)),
      ap (λ x. x.number) c.pass.view_is,
      omega (arith, came, was_came, more, split),
      omega (arith, gone, was_gone, more_gone, split_gone),
    )

pub returns-clause-seen : goal.returns-clause-seen
returns-clause-seen g c =
    let e = c.enter-ticket.ensures.turn in
    let b = beside g.V.Tells.list g.V.Tells.pass_of c.pass.inside.seat.me.0 c.pass.inside.number e.1 c.pass.invariant.2 e.3.1.behind in
    let before = subst (λ x. GrowsBeside g.V.Tells.pass_of x.number x.seen (g.V.Tells.list e.1.value)) c.pass.view_is b in
    let s = c.split_out-answer.ensures.out e.0 e.1 (carries g.V.Tells.list g.V.Tells.pass_of c.pass.inside.seat.me.0 e.0 e.1 c.enter-ticket.new.seat.me e.3) in
    let left = (c.leave.ensures.left s.0 s.1.1).0 in
    subst (GrowsBeside g.V.Tells.pass_of c.args.pass.now.number c.args.pass.now.seen) (ap g.V.Tells.list (sym s.2) ∙ sym (ap (λ m. m.0.seen) left)) before

pub returns-clause-ok : goal.returns-clause-ok
returns-clause-ok g c =
    let e = c.enter-ticket.ensures.turn in
    let s = c.split_out-answer.ensures.out e.0 e.1 (carries g.V.Tells.list g.V.Tells.pass_of c.pass.inside.seat.me.0 e.0 e.1 c.enter-ticket.new.seat.me e.3) in
    let left = (c.leave.ensures.left s.0 s.1.1).0 in
    let seen = ap (λ m. m.0.seen) e.3.0 in
    let after = ap (λ m. m.0.seen) left ∙ ap g.V.Tells.list s.2 in
    ok_too _ _ c.split_out-answer.result
    (λ p is. (
      is.0 ∙ (c.enter-ticket.ensures.same.0 ∙ ap (λ x. x.turns) c.pass.view_is),
      is.1 ∙ (seen ∙ sym after),
      is.2 ∙ sym (ap (λ m. m.0.came) left),
      is.3 ∙ sym (ap (λ m. m.0.gone) left),
      all_above g.V.Tells.list g.V.Tells.pass_of _ _ p.seen p.number (is.1 ∙ seen) is.4 e.3.1.made_by,
    )) c.split_out-answer.ensures.ok

pub returns-clause-number : goal.returns-clause-number
returns-clause-number g c =
    let e = c.enter-ticket.ensures.turn in
    let s = c.split_out-answer.ensures.out e.0 e.1 (carries g.V.Tells.list g.V.Tells.pass_of c.pass.inside.seat.me.0 e.0 e.1 c.enter-ticket.new.seat.me e.3) in
    let left = (c.leave.ensures.left s.0 s.1.1).0 in
    let was = ap (λ x. x.came) c.pass.view_is in
    let name = ap (λ x. x.number) c.pass.view_is in
    let more = e.3.1.later.0 in
    let below = e.3.1.below c.pass.inside.number c.pass.invariant.2 in
    let came = ap (λ m. m.0.came) left in
    ok_both _ _ _ c.split_out-answer.result
    (λ p is two. let n = is.4 in let c' = two.0 in (omega (arith, n, c', came), omega (arith, n, was, more), omega (arith, n, name, below), is.5)) c.split_out-answer.ensures.ok c.split_out-answer.ensures.came

pub returns-clause-free : goal.returns-clause-free
returns-clause-free g c =
    let e = c.enter-ticket.ensures.turn in
    let s = c.split_out-answer.ensures.out e.0 e.1 (carries g.V.Tells.list g.V.Tells.pass_of c.pass.inside.seat.me.0 e.0 e.1 c.enter-ticket.new.seat.me e.3) in
    let left = (c.leave.ensures.left s.0 s.1.1).0 in
    let came = ap (λ m. m.0.came) left in
    let gone = ap (λ m. m.0.gone) left in
    ok_too _ _ c.split_out-answer.result (λ p is e. is.2 (let a = is.0 in let b = is.1 in omega (arith, a, b, e, came, gone))) c.split_out-answer.ensures.came

pub returns-clause-err : goal.returns-clause-err
returns-clause-err g c =
    let e = c.enter-ticket.ensures.turn in
    let s = c.split_out-answer.ensures.out e.0 e.1 (carries g.V.Tells.list g.V.Tells.pass_of c.pass.inside.seat.me.0 e.0 e.1 c.enter-ticket.new.seat.me e.3) in
    let left = (c.leave.ensures.left s.0 s.1.1).0 in
    let came = ap (λ m. m.0.came) left in
    let gone = ap (λ m. m.0.gone) left in
    err_too _ _ c.split_out-answer.result
    (λ n is. let a = ap (λ v. v.came) is.0 in let b = ap (λ v. v.gone) is.0 in let o = is.1 in let d = is.2 in (omega (arith, a, b, o, came, gone), omega (arith, a, d, came), is.3)) c.split_out-answer.ensures.err
