use Rattle.std.proofs.Common.{sym, subst, ◌∙◌}
use Rattle.cat_events.specs.Coming.{HasCome}
use Rattle.cat_core.proofs.Numbers.{apart_of}
use Rattle.cat_core.proofs.Takes.{forget_number_is}
use Rattle.cat_core.proofs.extra.forget_number.Goals as goal

pub known_copy-requires : goal.known_copy-requires
known_copy-requires g c = apart_of g.L.Layers.rules c.args.links.now c.args.state.now c.requires

pub returns-in-Ok-Some : goal.returns-in-Ok-Some
returns-in-Ok-Some g c =
    subst (λ o. HasCome g.L.Layers.rules o c.forget.result c.args.state.now c.forget.new.state c.forget.new.links)
    (forget_number_is g.L.Layers.rules c.args.settings.now c.args.state.now c.args.number c.in-Ok-Some.reference (sym c.in-Ok-Some.field-0-is ∙ c.in-Ok-Some.ensures)) c.forget.ensures
