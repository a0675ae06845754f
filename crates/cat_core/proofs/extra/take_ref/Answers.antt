use Rattle.std.proofs.Common.{option_map, sym, ap, ◌∙◌, None, Some}
use Rattle.cat_core.proofs.Soonest.{taken_key}
use Rattle.cat_core.proofs.extra.take_ref.Goals as goal

pub returns-in-None : goal.returns-in-None
returns-in-None c = taken_key c.args.m.now c.args.now c.in_order.ensures None (sym (ap (option_map (λ r. r.now)) c.in-None.is) ∙ c.first_due.ensures)

pub returns-in_ok-duplicate-in-Some : goal.returns-in_ok-duplicate-in-Some
returns-in_ok-duplicate-in-Some c =
    taken_key c.args.m.now c.args.now c.in_order.ensures (Some c.in_ok-duplicate-in-Some.field-0)
    (ap Some c.in_ok-duplicate-in-Some.ensures ∙ (sym (ap (option_map (λ r. r.now)) c.in-Some.is) ∙ c.first_due.ensures))
