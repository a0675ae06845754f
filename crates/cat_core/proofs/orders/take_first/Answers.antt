use Rattle.std.proofs.Common.{sym, ◌∙◌}
use Rattle.cat_core.proofs.Takes.{order_given}
use Rattle.cat_core.proofs.orders.take_first.Goals as goal

pub returns-in-Ok-clause-order : goal.returns-in-Ok-clause-order
returns-in-Ok-clause-order g c = λ h.
    c.in-Ok.ensures ∙ order_given g.L.Layers.rules c.args.settings.now c.args.now c.args.m.now c.in-Ok-Some.reference (sym c.in-Ok-Some.field-0-is ∙ c.in-Ok-Some.ensures)
