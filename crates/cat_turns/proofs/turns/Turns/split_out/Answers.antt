use Rattle.std.proofs.Common.{rules, refl, ap, sym, ◌∙◌, ◌≢◌, subst, arith}
use Rattle.cat_turns.specs.Law.{most, parent}
use Rattle.cat_turns.specs.Steps.{Carries}
use Rattle.cat_turns.proofs.Steps.{one_more, splits}
use Rattle.cat_turns.proofs.turns.Turns.split_out.Goals as goal

pub returns-then-out-self-clause-out : goal.returns-then-out-self-clause-out
returns-then-out-self-clause-out g c t h has = (h, subst (λ s. Carries g.V.Tells.list g.V.Tells.pass_of t h s.me) (sym c.counts-out.ensures.same) has, refl)

pub split_seat-chair-requires : goal.split_seat-chair-requires
split_seat-chair-requires g c =
    let o = c.requires.out in
    let same = c.counts-out.ensures.same in
    let d = (c.counts-out.ensures.counts o.1 o.2.1).1 in
    let came = ap (λ s. s.me.0.came) same in
    let p = o.2.2.0 in
    let l = o.2.3 in
    let free : c.counts-out.result.1 ≢ most = c.if-drawn-eq-MOST.false in
    (search rules, search rules, splits g.V.Tells.list g.V.Tells.pass_of _ _ o.0 (ap (λ s. s.me.0.stage) same ∙ o.2.0) (omega (arith, d, came, p, l, free)))

pub set_counts-requires-clause-out : goal.set_counts-requires-clause-out
set_counts-requires-clause-out g c = let o = c.requires.out in (o.1, ap (λ m. m.1) c.split_seat-chair.ensures.2 ∙ (ap (λ s. s.me.1) c.counts-out.ensures.same ∙ o.2.1))

pub returns-clause-out : goal.returns-clause-out
returns-clause-out g c t h has =
    let same = c.counts-out.ensures.same in
    let n = c.counts-out.ensures.counts h has.1 in
    let before = ap (λ m. m.1) c.split_seat-chair.ensures.2 ∙ (ap (λ s. s.me.1) same ∙ has.1) in
    let first = c.set_counts.ensures.same.2 ∙ (ap (λ m. m.0) c.split_seat-chair.ensures.2 ∙ ap (λ s. parent s.me.0) same) in
    let second = c.set_counts.ensures.value h before in
    let free : c.counts-out.result.1 ≢ most = c.if-drawn-eq-MOST.false in
    (_, one_more g.V.Tells.list g.V.Tells.pass_of c.args.seat.now.me c.set_counts.new.seat.me t h c.counts-out.result.0 c.counts-out.result.1 (λ i. (first i, second i)) n.0 n.1 free has, refl)
