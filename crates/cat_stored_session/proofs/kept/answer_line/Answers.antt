use Rattle.std.proofs.Common.{refl}
use Rattle.cat_stored_session.proofs.Lines.{follows, passes, refuses}
use Rattle.cat_stored_session.specs.declared.state.KeptState.{KeptState}
use Rattle.cat_stored_session.proofs.kept.answer_line.Goals as goal

pub returns-then-may_change-clause-ok : goal.returns-then-may_change-clause-ok
returns-then-may_change-clause-ok g c =
    let old : KeptState = record { ruled = c.args.session.now; place = c.args.store.now.place; refusals = c.args.refusals.now } in
    let new : KeptState = record { ruled = c.follow.new.session; place = c.follow.new.store.place; refusals = c.follow.new.refusals } in
    follows g.L.Layers.rules c.args.line.now old new c.follow.ensures.place c.in-Ok.read c.in-Ok.ensures.ok c.follow.result (λ t. t.items) c.follow.ensures.ok

pub returns-else-may_change-clause-ok : goal.returns-else-may_change-clause-ok
returns-else-may_change-clause-ok g c =
    let old : KeptState = record { ruled = c.args.session.now; place = c.args.store.now.place; refusals = c.args.refusals.now } in
    let new : KeptState = record { ruled = c.pass.new.session; place = c.args.store.now.place; refusals = c.args.refusals.now } in
    passes g.L.Layers.rules c.args.line.now old new refl c.in-Ok.read c.in-Ok.ensures.ok c.pass.result (λ t. t.items) refl c.pass.ensures.ok

pub returns-in-Err-clause-ok : goal.returns-in-Err-clause-ok
returns-in-Err-clause-ok g c =
    let old : KeptState = record { ruled = c.args.session.now; place = c.args.store.now.place; refusals = c.args.refusals.now } in
    refuses g.L.Layers.rules c.args.line.now old old refl c.in-Err.fault refl refl c.refused.result (λ t. t.items) c.in-Err.ensures.err c.refused.ensures
