use Rattle.std.proofs.Common.{rules, refl, ap, ◌∙◌, arith}
use Rattle.cat_turns.proofs.Steps.{joins, one_fewer}
use Rattle.cat_turns.proofs.turns.Turns.join_out.Goals as goal

pub join_seat-requires : goal.join_seat-requires
join_seat-requires g c = let o = c.requires.out in let p = c.requires.other in
    (search rules, search rules, p.3, search rules, joins g.V.Tells.list g.V.Tells.pass_of _ _ _ _ o.0 c.requires.numbered.0 p.0 o.2.0 c.requires.numbered.1 p.1 p.2)

pub counts-out-requires-clause-out : goal.counts-out-requires-clause-out
counts-out-requires-clause-out g c = let o = c.requires.out in (o.1, ap (λ m. m.1) c.join_seat.ensures.2 ∙ o.2.1)

pub set_counts-requires-clause-out : goal.set_counts-requires-clause-out
set_counts-requires-clause-out g c = let o = c.requires.out in (o.1, ap (λ s. s.me.1) c.counts-out.ensures.same ∙ (ap (λ m. m.1) c.join_seat.ensures.2 ∙ o.2.1))

pub returns-clause-out : goal.returns-clause-out
returns-clause-out g c t h has =
    let same = c.counts-out.ensures.same in
    let before = ap (λ m. m.1) c.join_seat.ensures.2 ∙ has.1 in
    let n = c.counts-out.ensures.counts h before in
    let first = c.set_counts.ensures.same.2 ∙ (ap (λ s. s.me.0) same ∙ ap (λ m. m.0) c.join_seat.ensures.2) in
    let second = c.set_counts.ensures.value h (ap (λ s. s.me.1) same ∙ before) in
    let o = n.0 in
    let q = has.2.1 in
    let stays = c.requires.out.3 in
    (_, one_fewer g.V.Tells.list g.V.Tells.pass_of c.args.seat.now.me c.set_counts.new.seat.me t h c.args.other.me.0 _ c.counts-out.result.1 (λ i. (first i, second i)) (omega (arith, o, q, stays)) n.1 has, refl)
