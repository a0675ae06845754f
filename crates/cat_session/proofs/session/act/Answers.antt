use Rattle.std.proofs.Common.{arith, ◌≡◌, false, true}
use Rattle.cat_desk.specs.Deed.{deed_of}
use Rattle.cat_session.proofs.Said.{appended, at_moment, carries, none_shown, on_err, unmoved}
use Rattle.cat_session.proofs.session.act.Goals as goal

pub returns-in_err-push_reply-clause-err : goal.returns-in_err-push_reply-clause-err
returns-in_err-push_reply-clause-err g c =
    let came = c.act-reply.ensures.acts in
    let acts = at_moment g.L.Layers.rules c.act-reply.new.self.clock.moment c.args.desk.now.clock.moment c.args.desk.now.clock.readings c.act-reply.new.self.clock.readings (deed_of c.args.command) c.args.desk.now.catalogue c.act-reply.new.self.catalogue c.act-reply.result came.0 came.1 in
    let none = none_shown g.L.Layers.rules c.args.desk.now.clock.moment (deed_of c.args.command) c.args.desk.now.catalogue c.act-reply.new.self.catalogue c.act-reply.result acts c.requires in
    on_err _ _ (unmoved g.L.Layers.rules c.args.desk.now.clock.moment (deed_of c.args.command) c.args.desk.now.catalogue c.act-reply.new.self.catalogue c.act-reply.result acts
    (λ said.
    let no : false ≡ true = c.in_err-push_reply.ensures.room said (omega (arith, none, c.in_ok-out.ensures.capacity, c.in_ok-out.ensures.len)) in
    cc))

pub returns-clause-ok : goal.returns-clause-ok
returns-clause-ok g c =
    let came = c.act-reply.ensures.acts in
    let acts = at_moment g.L.Layers.rules c.act-reply.new.self.clock.moment c.args.desk.now.clock.moment c.args.desk.now.clock.readings c.act-reply.new.self.clock.readings (deed_of c.args.command) c.args.desk.now.catalogue c.act-reply.new.self.catalogue c.act-reply.result came.0 came.1 in
    carries g.L.Layers.rules c.args.desk.now.clock.moment (deed_of c.args.command) c.args.desk.now.catalogue c.act-reply.new.self.catalogue c.act-reply.result acts c.in_ok-push_reply.ensures.said c.push_reply.new.out.items
    (appended c.in_ok-out.out.items c.push_reply.new.out.items _ c.in_ok-push_reply.ensures.ok c.in_ok-out.ensures.items)
