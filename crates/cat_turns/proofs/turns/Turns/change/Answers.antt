use Rattle.std.proofs.Common.{rules, ◌∷◌, ap, sym, ◌∙◌, refl}
use Rattle.atomic_table.specs.Table.{rest}
use Rattle.cat_turns.proofs.Steps.{at_front, first_or}
use Rattle.cat_turns.proofs.turns.Turns.change.Goals as goal

pub slot_mut-held-requires : goal.slot_mut-held-requires
slot_mut-held-requires g c = let o = c.requires.out in (search rules, (o.0, at_front g.V.Tells.list g.V.Tells.pass_of _ o.0 o.1))

pub returns-clause-done : goal.returns-clause-done
returns-clause-done g c h has =
    let same = ap (first_or g.V.Tells.list g.V.Tells.pass_of h) (sym c.slot_mut-held.ensures.value ∙ has) in (
      record { value = c.work.new.arg2; out = c.slot_mut-held.result.now.out; drawn = c.slot_mut-held.result.now.drawn },
      ap (λ l. (0, record { value = c.work.new.arg2; out = c.slot_mut-held.result.now.out; drawn = c.slot_mut-held.result.now.drawn }) ∷ l) (ap rest has),
      record { shown = _; shows = ap (λ h. h.value) same; left = _; met = c.work.ensures; leaves = refl },
      ap (λ h. h.out) same,
      ap (λ h. h.drawn) same,
    )
