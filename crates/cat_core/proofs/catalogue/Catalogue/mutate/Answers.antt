use Rattle.std.proofs.Common.{◌≡◌, ◌<◌, arith, sym, subst, ◌∙◌}
use Rattle.cat_collections.specs.Table.{get}
use Rattle.cat_model.specs.declared.types.Acted.TheVariants.{Now}
use Rattle.cat_model.specs.Given.{given}
use Rattle.cat_model.specs.Reply.{acted}
use Rattle.cat_model.specs.Step.{source_at, step}
use Rattle.cat_model.specs.Step.Event.{Mutate}
use Rattle.cat_core.proofs.Calls.{ledger_kept, reply_with, state_with}
use Rattle.cat_core.proofs.Mutated.{acted_now, again_step}
use Rattle.cat_core.proofs.catalogue.Catalogue.mutate.Goals as goal

pub returns-then-serial-last-2-clause-state : goal.returns-then-serial-last-2-clause-state
returns-then-serial-last-2-clause-state g c =
    let p = c.args.provider.now in
    let x = given p c.args.mutation.now in
    let m = c.self.inside.ledger in
    subst (λ l. l.state ≡ step g.L.Layers.rules l.settings (Mutate p x) l.state) c.self.view_is
    (sym (again_step g.L.Layers.rules m.settings p x m.state (sym (c.serial_of-serial.ensures p) ∙ (c.if-serial-last-2.true ∙ c.last_serial-last.ensures)) c.self.invariant.steady.small))

pub invariant_of-self : goal.invariant_of-self
invariant_of-self g c =
    ledger_kept g.L.Layers.rules (Mutate c.args.provider.now (given c.args.provider.now c.args.mutation.now)) c.self.inside.ledger c.args.self.now c.self.view_is c.mutated-came.result c.mutated-came.new.state c.mutated-came.new.links c.mutated-came.ensures c.self.inside.links c.self.invariant

pub returns-clause-state : goal.returns-clause-state
returns-clause-state g c =
    state_with g.L.Layers.rules (Mutate c.args.provider.now (given c.args.provider.now c.args.mutation.now)) c.self.inside.ledger c.args.self.now c.self.view_is c.mutated-came.result c.mutated-came.new.state c.mutated-came.new.links c.mutated-came.ensures c.answered.result c.answered.ensures c.with_reply.result Now c.with_reply.ensures

pub returns-clause-reply : goal.returns-clause-reply
returns-clause-reply g c =
    let p = c.args.provider.now in
    let x = given p c.args.mutation.now in
    let m = c.self.inside.ledger in
    let later : (source_at (get m.state.providers p)).serial < x.serial = omega (arith, c.serial_of-serial.ensures p) in
    reply_with g.L.Layers.rules (Mutate c.args.provider.now (given c.args.provider.now c.args.mutation.now)) c.self.inside.ledger c.args.self.now c.self.view_is c.mutated-came.result c.mutated-came.new.state c.mutated-came.new.links c.mutated-came.ensures c.answered.result c.answered.ensures c.with_reply.result Now _ c.with_reply.ensures
    (subst (λ l. Now ≡ acted p x l.state) c.self.view_is (sym (acted_now g.L.Layers.rules m.settings p x m.state later)))
