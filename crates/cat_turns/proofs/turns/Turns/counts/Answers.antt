use Rattle.std.proofs.Common.{rules, ap, sym, ◌∙◌}
use Rattle.cat_turns.proofs.Steps.{at_front, first_or}
use Rattle.cat_turns.proofs.turns.Turns.counts.Goals as goal

pub slot_mut-held-requires : goal.slot_mut-held-requires
slot_mut-held-requires g c = let o = c.requires.out in (search rules, (o.0, at_front g.V.Tells.list g.V.Tells.pass_of _ o.0 o.1))

pub returns-clause-same : goal.returns-clause-same
returns-clause-same g c = ap (λ l. record c.args.seat.now { me = (c.args.seat.now.me.0, l) }) (sym c.slot_mut-held.ensures.value)

pub returns-clause-counts : goal.returns-clause-counts
returns-clause-counts g c h has =
    let same = ap (first_or g.V.Tells.list g.V.Tells.pass_of h) (sym c.slot_mut-held.ensures.value ∙ has) in (ap (λ h. h.out) same, ap (λ h. h.drawn) same)
