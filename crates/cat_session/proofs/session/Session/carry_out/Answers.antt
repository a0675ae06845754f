use Rattle.cat_session.proofs.Lines.{asked, carried, drops, forgets, mutates}
use Rattle.cat_session.proofs.Said.{ok_then}
use Rattle.cat_session_model.specs.Program.{program_settings}
use Rattle.cat_session.proofs.session.Session.carry_out.Goals as goal

pub returns-in-Mutate-clause-ok : goal.returns-in-Mutate-clause-ok
returns-in-Mutate-clause-ok g c =
    let d = c.self.inside.desk in
    ok_then c.act.result _ _ c.act.ensures.ok
    (λ text h. carried g.L.Layers.rules c.self.inside.orphans d.catalogue c.act.new.desk.catalogue c.self.invariant d.clock.moment c.act.new.desk.clock.moment c.act.ensures.clock c.self.inside.orders.items c.self.inside.stitches c.args.self.now c.self.view_is text.items _ c.args.line _ c.in-Mutate.is (mutates g.L.Layers.rules (program_settings c.self.inside.orphans) d.clock.moment c.self.inside.orders.items c.self.inside.stitches d.catalogue.state c.in-Mutate.provider c.in-Mutate.mutation) h)

pub returns-in-ShelfDrop-clause-ok : goal.returns-in-ShelfDrop-clause-ok
returns-in-ShelfDrop-clause-ok g c =
    let d = c.self.inside.desk in
    ok_then c.act-in-ShelfDrop.result _ _ c.act-in-ShelfDrop.ensures.ok
    (λ text h. carried g.L.Layers.rules c.self.inside.orphans d.catalogue c.act-in-ShelfDrop.new.desk.catalogue c.self.invariant d.clock.moment c.act-in-ShelfDrop.new.desk.clock.moment c.act-in-ShelfDrop.ensures.clock c.self.inside.orders.items c.self.inside.stitches c.args.self.now c.self.view_is text.items _ c.args.line _ c.in-ShelfDrop.is (drops g.L.Layers.rules (program_settings c.self.inside.orphans) d.clock.moment c.self.inside.orders.items c.self.inside.stitches d.catalogue.state c.in-ShelfDrop.name) h)

pub returns-in-Forget-clause-ok : goal.returns-in-Forget-clause-ok
returns-in-Forget-clause-ok g c =
    let d = c.self.inside.desk in
    ok_then c.act-in-Forget.result _ _ c.act-in-Forget.ensures.ok
    (λ text h. carried g.L.Layers.rules c.self.inside.orphans d.catalogue c.act-in-Forget.new.desk.catalogue c.self.invariant d.clock.moment c.act-in-Forget.new.desk.clock.moment c.act-in-Forget.ensures.clock c.self.inside.orders.items c.self.inside.stitches c.args.self.now c.self.view_is text.items _ c.args.line _ c.in-Forget.is (forgets g.L.Layers.rules (program_settings c.self.inside.orphans) d.clock.moment c.self.inside.orders.items c.self.inside.stitches d.catalogue.state c.in-Forget.reference) h)

pub returns-in-Ask-clause-ok : goal.returns-in-Ask-clause-ok
returns-in-Ask-clause-ok g c = ok_then c.ask.result _ _ c.ask.ensures.ok (λ text h. asked g.L.Layers.rules _ c.args.self.now c.ask.new.self c.self.view_is text.items c.in-Ask.ask c.args.line c.in-Ask.is h)
