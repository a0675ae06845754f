use Rattle.std.proofs.Common.{arith, ◌≡◌, ◌≤◌, ap, false, true, ◌∙◌}
use Rattle.cat_desk.specs.Deed.Deed.{Take}
use Rattle.cat_model.specs.Step.{next_taken}
use Rattle.cat_session.specs.Replies.{order_length, shown}
use Rattle.cat_session.proofs.Said.{appended, at_moment, carries, on_err, unmoved}
use Rattle.cat_session.proofs.Takes.{kept_order, order_given, take_fits}
use Rattle.cat_session.proofs.session.take.Goals as goal

pub returns-clause-ok : goal.returns-clause-ok
returns-clause-ok g c =
    let came = c.act-reply.ensures.acts in
    let acts = at_moment g.L.Layers.rules c.act-reply.new.self.clock.moment c.args.desk.now.clock.moment c.args.desk.now.clock.readings c.act-reply.new.self.clock.readings Take c.args.desk.now.catalogue c.act-reply.new.self.catalogue c.act-reply.result came.0 came.1 in
    carries g.L.Layers.rules c.args.desk.now.clock.moment Take c.args.desk.now.catalogue c.act-reply.new.self.catalogue c.act-reply.result acts c.in_ok-push_reply.ensures.said c.push_reply.new.out.items
    (appended c.in_ok-out.out.items c.push_reply.new.out.items _ c.in_ok-push_reply.ensures.ok c.in_ok-out.ensures.empty)

pub returns-clause-order : goal.returns-clause-order
returns-clause-order g c =
    let came = c.act-reply.ensures.acts in
    let acts = at_moment g.L.Layers.rules c.act-reply.new.self.clock.moment c.args.desk.now.clock.moment c.args.desk.now.clock.readings c.act-reply.new.self.clock.readings Take c.args.desk.now.catalogue c.act-reply.new.self.catalogue c.act-reply.result came.0 came.1 in
    kept_order c.keep.new.orders.items c.reserve.new.self.items c.args.orders.now.items c.order_in.result _ c.keep.ensures
    (c.order_in.ensures ∙ order_given g.L.Layers.rules c.args.desk.now.clock.moment c.args.desk.now.catalogue c.act-reply.result c.act-reply.new.self.catalogue acts c.in_ok-push_reply.ensures.said)
    c.reserve.ensures.items

pub returns-in_err-push_reply-clause-err : goal.returns-in_err-push_reply-clause-err
returns-in_err-push_reply-clause-err g c =
    let old = c.args.desk.now.catalogue in
    let moment = c.args.desk.now.clock.moment in
    let came = c.act-reply.ensures.acts in
    let acts = at_moment g.L.Layers.rules c.act-reply.new.self.clock.moment moment c.args.desk.now.clock.readings c.act-reply.new.self.clock.readings Take old c.act-reply.new.self.catalogue c.act-reply.result came.0 came.1 in
    let fits : shown c.act-reply.result ≤ order_length (next_taken moment old.state) = take_fits g.L.Layers.rules moment old c.act-reply.result c.act-reply.new.self.catalogue acts in
    let there : order_length c.in_ok-reference.reference ≡ order_length (next_taken moment old.state) = ap order_length c.in_ok-reference.ensures in
    on_err _ _ (unmoved g.L.Layers.rules moment Take old c.act-reply.new.self.catalogue c.act-reply.result acts
    (λ said.
    let no : false ≡ true = c.in_err-push_reply.ensures.room said (omega (arith, fits, there, c.in_ok-out.ensures.room, c.in_ok-out.ensures.len)) in
    cc))
