use Rattle.std.proofs.Common.{ap, ◌∙◌}
use Rattle.cat_collections.specs.Rows.{without}
use Rattle.cat_collections.specs.Table.{Text, put}
use Rattle.cat_model.specs.Dues.{due_of, lapse_of, moment_cmp}
use Rattle.cat_model.specs.declared.types.Record.{Record}
use Rattle.cat_model.proofs.Dues.{put_new, put_over}
use Rattle.cat_model.proofs.records.Records.put_ready.Goals as goal
use Rattle.cat_model.proofs.records.Records.put_ready.Goals.{in-Some, in_default}

pub invariant_of-self : goal.invariant_of-self
invariant_of-self c =
    let e = c.ready.inside.entry in
    let m = c.self.inside.entries in
    let d = c.self.inside.dues in
    let l = c.self.inside.lapses in
    let s = c.match-put_node.self-inside in
    let timed = c.put_moment.ensures ∙ ap (λ n. put moment_cmp n.0 n.1 s.dues) c.ready.invariant.0 in
    let lapsing = c.put_moment-2.ensures ∙ ap (λ n. put moment_cmp n.0 n.1 s.lapses) c.ready.invariant.1 in
    elim c.match-put_node.branch [
      | in-Some w ↦ (
        put_over due_of m d c.in_order.ensures c.in_order-2.ensures c.self.invariant.0 e.0 c.put_node.result c.put_node.ensures.before w.in-Some.former w.in-Some.is e.1
            s.entries s.dues c.put_moment.new.moments (ap (λ x. x.entries) w.self-inside-is ∙ c.put_node.ensures.entries)
            (ap (λ x. x.dues) w.self-inside-is ∙ (w.strike.ensures.moments ∙ ap (λ (f : Text × Record). without moment_cmp (f.1.due, f.0) d) w.item.ensures)) timed,
        put_over lapse_of m l c.in_order.ensures c.in_order-3.ensures c.self.invariant.1 e.0 c.put_node.result c.put_node.ensures.before w.in-Some.former w.in-Some.is e.1
            s.entries s.lapses c.put_moment-2.new.moments (ap (λ x. x.entries) w.self-inside-is ∙ c.put_node.ensures.entries)
            (ap (λ x. x.lapses) w.self-inside-is ∙ (w.strike-in-Some.ensures.moments ∙ (ap (λ t. without moment_cmp (t, w.item.result.now.0) l) w.lapse_of.ensures ∙ ap (λ (f : Text × Record). without moment_cmp (lapse_of f.1, f.0) l) w.item.ensures))) lapsing,
      )
      | in_default w ↦ (
        put_new due_of m d c.in_order.ensures c.in_order-2.ensures c.self.invariant.0 e.0 c.put_node.result c.put_node.ensures.before w.in_default.is e.1
            s.entries c.put_moment.new.moments (ap (λ x. x.entries) w.self-inside-is ∙ c.put_node.ensures.entries)
            (timed ∙ ap (λ x. put moment_cmp (e.1.due, e.0) (tt {0}) x.dues) w.self-inside-is),
        put_new lapse_of m l c.in_order.ensures c.in_order-3.ensures c.self.invariant.1 e.0 c.put_node.result c.put_node.ensures.before w.in_default.is e.1
            s.entries c.put_moment-2.new.moments (ap (λ x. x.entries) w.self-inside-is ∙ c.put_node.ensures.entries)
            (lapsing ∙ ap (λ x. put moment_cmp (lapse_of e.1, e.0) (tt {0}) x.lapses) w.self-inside-is),
      )
    ]
