use Rattle.std.proofs.Common.{rules, [], ◌∷◌, ap, sym, ◌∙◌}
use Rattle.atomic_table.specs.Table.{rest}
use Rattle.cat_turns.proofs.Steps.{at_front, first_or}
use Rattle.cat_turns.proofs.turns.Turns.set_counts.Goals as goal

pub slot_mut-held-requires : goal.slot_mut-held-requires
slot_mut-held-requires g c = let o = c.requires.out in (search rules, (o.0, at_front g.V.Tells.list g.V.Tells.pass_of _ o.0 o.1))

pub returns-clause-value : goal.returns-clause-value
returns-clause-value g c h has =
    let same = ap (first_or g.V.Tells.list g.V.Tells.pass_of h) (sym c.slot_mut-held.ensures.value ∙ has) in
    (ap (λ l. (0, record { value = c.slot_mut-held.result.now.value; out = c.args.out; drawn = c.args.drawn }) ∷ l) (ap rest has))
    ∙ ap (λ x. (0, record { value = x.value; out = c.args.out; drawn = c.args.drawn }) ∷ []) same
