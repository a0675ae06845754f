use Rattle.std.proofs.Common.{refl, sym, ap, ◌∙◌, option_map, subst}
use Rattle.cat_desk.specs.Deed.Deed.{Finish}
use Rattle.cat_session.proofs.Lines.{carried, finishes}
use Rattle.cat_session.proofs.Said.{ok_then}
use Rattle.cat_session.specs.Carried.{CarriesDeed}
use Rattle.cat_session_model.specs.Session.{order_numbered}
use Rattle.cat_session_model.specs.Program.{program_settings}
use Rattle.cat_session.proofs.session.Session.finish.Goals as goal

pub returns-in_ok-done-in-Some-clause-ok : goal.returns-in_ok-done-in-Some-clause-ok
returns-in_ok-done-in-Some-clause-ok g c =
    let d = c.self.inside.desk in
    ok_then c.act.result _ _ c.act.ensures.ok
    (λ text h. carried g.L.Layers.rules c.self.inside.orphans d.catalogue c.act.new.desk.catalogue c.self.invariant d.clock.moment c.act.new.desk.clock.moment c.act.ensures.clock c.self.inside.orders.items c.self.inside.stitches c.args.self.now c.self.view_is text.items _ _ (Finish c.in-Some.order.now) refl
    (finishes g.L.Layers.rules (program_settings c.self.inside.orphans) d.clock.moment c.self.inside.orders.items c.self.inside.stitches d.catalogue.state c.args.token c.in-Some.order.now (sym (ap (order_numbered c.args.token) c.as_slice.ensures.value) ∙ (sym c.order_numbered.ensures ∙ ap (option_map (λ x. x.now)) c.in-Some.is)))
    (subst (λ x. CarriesDeed g.L.Layers.rules d.clock.moment (Finish x) d.catalogue c.act.new.desk.catalogue text.items) c.in_ok-done-in-Some.ensures h))
