use Rattle.std.proofs.Common.{arith, ◌≡◌, false, true}
use Rattle.cat_desk.specs.Deed.Deed.{Settle}
use Rattle.cat_session.proofs.Said.{appended, at_moment, carries, none_shown, on_err, unmoved}
use Rattle.cat_session.proofs.session.settle.Goals as goal

pub returns-in_err-push_reply-clause-err : goal.returns-in_err-push_reply-clause-err
returns-in_err-push_reply-clause-err g c =
    let old = c.args.desk.now in
    let did = c.settle_reaching-reply in
    let new = did.new.self in
    let acts = at_moment g.L.Layers.rules new.clock.moment old.clock.moment old.clock.readings new.clock.readings Settle old.catalogue new.catalogue did.result.0 did.ensures.acts did.ensures.ticks in
    let none = none_shown g.L.Layers.rules old.clock.moment Settle old.catalogue new.catalogue did.result.0 acts tt in
    on_err _ _ (unmoved g.L.Layers.rules old.clock.moment Settle old.catalogue new.catalogue did.result.0 acts
    (λ said.
    let no : false ≡ true = c.in_err-push_reply.ensures.room said (omega (arith, none, c.in_ok-text.ensures.capacity, c.in_ok-text.ensures.len)) in
    cc))

pub returns-clause-ok : goal.returns-clause-ok
returns-clause-ok g c =
    let old = c.args.desk.now in
    let did = c.settle_reaching-reply in
    let new = did.new.self in
    let acts = at_moment g.L.Layers.rules new.clock.moment old.clock.moment old.clock.readings new.clock.readings Settle old.catalogue new.catalogue did.result.0 did.ensures.acts did.ensures.ticks in
    carries g.L.Layers.rules old.clock.moment Settle old.catalogue new.catalogue did.result.0 acts c.in_ok-push_reply.ensures.said c.push_reply.new.out.items
    (appended c.in_ok-text.text.items c.push_reply.new.out.items _ c.in_ok-push_reply.ensures.ok c.in_ok-text.ensures.items)
