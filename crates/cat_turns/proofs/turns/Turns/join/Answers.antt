use Rattle.std.proofs.Common.{◌≡◌, ap, sym, ◌∙◌, subst, arith}
use Rattle.std.specs.declared.option.Option.TheVariants.{Some}
use mathlib.Core.List.{IsPrefix}
use Rattle.cat_turns.specs.Law.{GrowsBeside}
use Rattle.cat_turns.proofs.Steps.{beside, carries, not_grown}
use Rattle.cat_turns.proofs.turns.Turns.join.Goals as goal

pub join_out-requires-clause-out : goal.join_out-requires-clause-out
join_out-requires-clause-out g c = let e = c.enter-ticket.ensures.turn in (e.0, e.1, carries g.V.Tells.list g.V.Tells.pass_of c.pass.inside.seat.me.0 e.0 e.1 c.enter-ticket.new.seat.me e.3, e.3.1.stays)

pub join_out-requires-clause-numbered : goal.join_out-requires-clause-numbered
join_out-requires-clause-numbered g c = (c.pass.inside.number, ap (λ m. m.0.number) c.enter-ticket.ensures.turn.3.0 ∙ c.pass.invariant.2)

pub leave-requires-clause-out : goal.leave-requires-clause-out
leave-requires-clause-out g c =
    let e = c.enter-ticket.ensures.turn in
    let same = c.join_out.ensures.same.2 in
    let s = c.join_out.ensures.out e.0 e.1 (carries g.V.Tells.list g.V.Tells.pass_of c.pass.inside.seat.me.0 e.0 e.1 c.enter-ticket.new.seat.me e.3) in (
      e.0,
      s.0,
      c.pass.inside.number,
      e.2,
      s.1,
      ap (λ v. v.number) same ∙ (ap (λ m. m.0.number) e.3.0 ∙ c.pass.invariant.2),
      not_grown g.V.Tells.list g.V.Tells.pass_of c.join_out.new.seat.me.0.seen c.pass.inside.number e.1 s.0 (ap (λ v. v.seen) same ∙ ap (λ m. m.0.seen) e.3.0) s.2,
    )

pub invariant_of-pass : goal.invariant_of-pass
invariant_of-pass g c =
    let e = c.enter-ticket.ensures.turn in
    let same = c.join_out.ensures.same.2 in
    let s = c.join_out.ensures.out e.0 e.1 (carries g.V.Tells.list g.V.Tells.pass_of c.pass.inside.seat.me.0 e.0 e.1 c.enter-ticket.new.seat.me e.3) in
    let left = c.leave.ensures.left s.0 s.1.1 in
    (ap (λ m. m.1) left.0, ap (λ m. m.0.stage) left.0, ap (λ m. m.0.number) left.0 ∙ (ap (λ v. v.number) same ∙ (ap (λ m. m.0.number) e.3.0 ∙ c.pass.invariant.2)))

pub returns-clause-same : goal.returns-clause-same
returns-clause-same g c =
    let e = c.enter-ticket.ensures.turn in
    let same = c.join_out.ensures.same.2 in
    let s = c.join_out.ensures.out e.0 e.1 (carries g.V.Tells.list g.V.Tells.pass_of c.pass.inside.seat.me.0 e.0 e.1 c.enter-ticket.new.seat.me e.3) in
    let left = c.leave.ensures.left s.0 s.1.1 in
    let came = ap (λ m. m.0.came) left.0 ∙ ap (λ v. v.came) same in
    let gone = ap (λ m. m.0.gone) left.0 ∙ ap (λ v. v.gone) same in
    let was_came = ap (λ x. x.came) c.pass.view_is in
    let was_gone = ap (λ x. x.gone) c.pass.view_is in
    let more = e.3.1.later.0 in
    let more_gone = e.3.1.later.1 in (
      c.leave.ensures.same.0 ∙ (c.join_out.ensures.same.0 ∙ (c.enter-ticket.ensures.same.0 ∙ ap (λ x. x.turns) c.pass.view_is)),
      ap (λ x. x.number) c.pass.view_is,
      omega (arith, came, was_came, more),
      omega (arith, gone, was_gone, more_gone),
    )

pub returns-clause-seen : goal.returns-clause-seen
returns-clause-seen g c =
    let e = c.enter-ticket.ensures.turn in
    let b = beside g.V.Tells.list g.V.Tells.pass_of c.pass.inside.seat.me.0 c.pass.inside.number e.1 c.pass.invariant.2 e.3.1.behind in
    let before = subst (λ x. GrowsBeside g.V.Tells.pass_of x.number x.seen (g.V.Tells.list e.1.value)) c.pass.view_is b in
    let s = c.join_out.ensures.out e.0 e.1 (carries g.V.Tells.list g.V.Tells.pass_of c.pass.inside.seat.me.0 e.0 e.1 c.enter-ticket.new.seat.me e.3) in
    let left = c.leave.ensures.left s.0 s.1.1 in
    subst (GrowsBeside g.V.Tells.pass_of c.args.pass.now.number c.args.pass.now.seen) (ap g.V.Tells.list (sym s.2) ∙ sym (ap (λ m. m.0.seen) left.0)) before

pub returns-clause-joined : goal.returns-clause-joined
returns-clause-joined g c =
    let e = c.enter-ticket.ensures.turn in
    let s = c.join_out.ensures.out e.0 e.1 (carries g.V.Tells.list g.V.Tells.pass_of c.pass.inside.seat.me.0 e.0 e.1 c.enter-ticket.new.seat.me e.3) in
    let left = c.leave.ensures.left s.0 s.1.1 in
    let noted = ap (λ v. v.noted) c.join_out.ensures.same.2 ∙ ap (λ x. x.seen) c.other.view_is in
    subst (IsPrefix c.args.other.seen) (sym (ap (λ m. m.0.seen) left.0)) (subst (λ l. IsPrefix l (g.V.Tells.list s.0.value)) noted left.1)

pub returns-clause-number : goal.returns-clause-number
returns-clause-number g c =
    let e = c.enter-ticket.ensures.turn in
    let same = c.join_out.ensures.same.2 in
    let s = c.join_out.ensures.out e.0 e.1 (carries g.V.Tells.list g.V.Tells.pass_of c.pass.inside.seat.me.0 e.0 e.1 c.enter-ticket.new.seat.me e.3) in
    let left = c.leave.ensures.left s.0 s.1.1 in
    let met = left.2 c.other.inside.number (ap (λ v. v.met) same ∙ c.other.invariant.2) in
    let its = ap (λ x. x.number) c.other.view_is in
    let own = ap (λ x. x.number) c.pass.view_is in
    let came = ap (λ m. m.0.came) left.0 in
    let below = met.0 in (
      (λ (is : c.args.other.number ≡ c.args.pass.now.number). met.1 (ap (λ v. v.number) same ∙ (ap (λ m. m.0.number) e.3.0 ∙ (c.pass.invariant.2 ∙ ap Some (own ∙ (sym is ∙ sym its)))))),
      omega (arith, its, came, below),
    )

pub returns-clause-gone : goal.returns-clause-gone
returns-clause-gone g c =
    let e = c.enter-ticket.ensures.turn in
    let s = c.join_out.ensures.out e.0 e.1 (carries g.V.Tells.list g.V.Tells.pass_of c.pass.inside.seat.me.0 e.0 e.1 c.enter-ticket.new.seat.me e.3) in
    let left = c.leave.ensures.left s.0 s.1.1 in
    let gone = ap (λ m. m.0.gone) left.0 ∙ ap (λ v. v.gone) c.join_out.ensures.same.2 in
    let was_gone = ap (λ x. x.gone) c.pass.view_is in
    let more_gone = e.3.1.later.1 in
    omega (arith, gone, was_gone, more_gone)
