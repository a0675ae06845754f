use Rattle.std.proofs.Common.{refl}
use Rattle.cat_session_lines.specs.declared.line.Line.TheVariants as asks
use Rattle.cat_desk.specs.Deed.Deed.{Settle}
use Rattle.cat_session.proofs.Lines.{carried, settles}
use Rattle.cat_session.proofs.Said.{ok_then}
use Rattle.cat_session_model.specs.Program.{program_settings}
use Rattle.cat_session.proofs.session.Session.settle_reaching.Goals as goal

pub returns-clause-ok : goal.returns-clause-ok
returns-clause-ok g c =
    let d = c.self.inside.desk in
    ok_then c.settle.result _ _ c.settle.ensures.ok
    (λ x h. carried g.L.Layers.rules c.self.inside.orphans d.catalogue c.settle.new.desk.catalogue c.self.invariant d.clock.moment c.settle.new.desk.clock.moment c.settle.ensures.clock c.self.inside.orders.items c.self.inside.stitches c.args.self.now c.self.view_is x.text.items asks.Settle asks.Settle Settle refl
    (settles g.L.Layers.rules (program_settings c.self.inside.orphans) d.clock.moment c.self.inside.orders.items c.self.inside.stitches d.catalogue.state) h)
