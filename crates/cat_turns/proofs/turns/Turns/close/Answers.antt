use Rattle.std.proofs.Common.{rules, ◌≡◌, refl, ap, sym, ◌∙◌, subst, arith}
use mathlib.Core.Option.{some-injective}
use Rattle.cat_turns.specs.Law.{GrowsBeside}
use Rattle.cat_turns.specs.Steps.{Carries}
use Rattle.cat_turns.proofs.Steps.{beside, carries, not_grown, puts_back, closes}
use Rattle.cat_turns.proofs.turns.Turns.close.Goals as goal

pub counts-out-requires-clause-out : goal.counts-out-requires-clause-out
counts-out-requires-clause-out g c = let e = c.enter-ticket.ensures.turn in (e.1, ap (λ m. m.1) e.3.0)

pub leave-requires-clause-out : goal.leave-requires-clause-out
leave-requires-clause-out g c =
    let e = c.enter-ticket.ensures.turn in
    let same = c.counts-out.ensures.same in
    let now = ap (λ s. s.me) same ∙ e.3.0 in (
      e.0,
      e.1,
      c.pass.inside.number,
      e.2,
      subst (λ s. Carries g.V.Tells.list g.V.Tells.pass_of e.0 e.1 s.me) (sym same) (carries g.V.Tells.list g.V.Tells.pass_of c.pass.inside.seat.me.0 e.0 e.1 c.enter-ticket.new.seat.me e.3),
      ap (λ m. m.0.number) now ∙ c.pass.invariant.2,
      not_grown g.V.Tells.list g.V.Tells.pass_of c.counts-out.new.seat.me.0.seen c.pass.inside.number e.1 e.1 (ap (λ m. m.0.seen) now) refl,
    )

pub returns-then-out-ne1-clause-others : goal.returns-then-out-ne1-clause-others
returns-then-out-ne1-clause-others g c =
    let e = c.enter-ticket.ensures.turn in
    let b = beside g.V.Tells.list g.V.Tells.pass_of c.pass.inside.seat.me.0 c.pass.inside.number e.1 c.pass.invariant.2 e.3.1.behind in
    let before = subst (λ x. GrowsBeside g.V.Tells.pass_of x.number x.seen (g.V.Tells.list e.1.value)) c.pass.view_is b in
    let same = c.counts-out.ensures.same in
    let left = (c.leave.ensures.left e.1 (ap (λ s. s.me.1) same ∙ ap (λ m. m.1) e.3.0)).0 in
    let came = ap (λ m. m.0.came) left ∙ ap (λ s. s.me.0.came) same in
    let gone = ap (λ m. m.0.gone) left ∙ ap (λ s. s.me.0.gone) same in
    let was_came = ap (λ x. x.came) c.pass.view_is in
    let was_gone = ap (λ x. x.gone) c.pass.view_is in
    let more = e.3.1.later.0 in
    let more_gone = e.3.1.later.1 in
    let out = (c.counts-out.ensures.counts e.1 (ap (λ m. m.1) e.3.0)).0 in
    let all = e.3.1.counts.1 in (
      refl,
      (
        c.leave.ensures.same.0 ∙ (ap (λ s. s.table_id) same ∙ (c.enter-ticket.ensures.same.0 ∙ ap (λ x. x.turns) c.pass.view_is)),
        ap (λ x. x.number) c.pass.view_is,
        omega (arith, came, was_came, more),
        omega (arith, gone, was_gone, more_gone),
      ),
      subst (GrowsBeside g.V.Tells.pass_of c.args.pass.number c.args.pass.seen) (sym (ap (λ m. m.0.seen) left)) before,
      omega (arith, out, all, came, gone),
      c.if-out-ne1.true,
    )

pub load-requires : goal.load-requires
load-requires g c =
    let e = c.enter-ticket.ensures.turn in
    let now = ap (λ s. s.me) c.counts-out.ensures.same ∙ e.3.0 in
    (search rules, search rules, puts_back g.V.Tells.list g.V.Tells.pass_of _ _ _ _ e.1 e.0 now refl refl e.3.1.counts)

pub returns-clause-value : goal.returns-clause-value
returns-clause-value g c =
    let e = c.enter-ticket.ensures.turn in
    let b = beside g.V.Tells.list g.V.Tells.pass_of c.pass.inside.seat.me.0 c.pass.inside.number e.1 c.pass.invariant.2 e.3.1.behind in
    let before = subst (λ x. GrowsBeside g.V.Tells.pass_of x.number x.seen (g.V.Tells.list e.1.value)) c.pass.view_is b in
    let now = ap (λ s. s.me) c.counts-out.ensures.same ∙ e.3.0 in
    let last = closes g.V.Tells.list g.V.Tells.pass_of _ c.load.new.seat.me.0 _ _ _ (ap (λ m. m.0.stage) c.load.ensures.2) c.close_with-closed.ensures.values.2 in
    let same : last.0 ≡ c.take-value.result = some-injective last.0 c.take-value.result (sym last.1 ∙ c.take-value.ensures.value) in
    let is = ap (λ h. g.V.Tells.list h.value) (sym same) ∙ (last.2 ∙ (ap (λ m. m.0.seen) c.load.ensures.2 ∙ ap (λ m. m.0.seen) now)) in
    subst (GrowsBeside g.V.Tells.pass_of c.args.pass.number c.args.pass.seen) (sym is) before
