use Rattle.std.proofs.Common.{◌≡◌, ap, sym, ◌∙◌, Some}
use Rattle.cat_collections.specs.Rows.{without}
use Rattle.cat_collections.specs.Table.{Map, Text, get, put, text_cmp}
use Rattle.cat_model.specs.Dues.{due_of, lapse_of, moment_cmp, rerecorded_at}
use Rattle.cat_model.specs.declared.types.Record.{Record}
use Rattle.cat_model.proofs.Dues.{none_out, none_renewed, renewed, renewed_is}
use Rattle.cat_model.proofs.records.Records.renew.Goals as goal
use Rattle.cat_model.proofs.records.Records.renew.Goals.{in-Some-1, in-None-2}

pub invariant_of-self : goal.invariant_of-self
invariant_of-self c = (
  renewed due_of m c.self.inside.dues c.in_order.ensures c.in_order-2.ensures c.self.invariant.0 c.args.reference.now c.take.result c.take.ensures.node
      f there y
      c.take.new.self c.put_node.new.self c.move_moment.new.moments c.take.ensures.entries again c.move_moment.ensures,
  renewed lapse_of m c.self.inside.lapses c.in_order.ensures c.in_order-3.ensures c.self.invariant.1 c.args.reference.now c.take.result c.take.ensures.node
      f there y
      c.take.new.self c.put_node.new.self c.move_moment-in-Some.new.moments c.take.ensures.entries again
      (c.move_moment-in-Some.ensures ∙ (λ i. put moment_cmp (c.lapse_of.ensures i, f.0) (tt {0}) (without moment_cmp (c.lapse_of-lapsed.ensures i, f.0) c.self.inside.lapses))),
)
  where
    m : Map Record
    m = c.self.inside.entries

    f : Text × Record
    f = c.open-reference.result.0

    y : Record
    y = record f.1 { due = c.unwrap_or.result; lease = c.args.lease }

    there : c.take.result ≡ Some f
    there = c.in-Some.is ∙ ap Some (sym c.open-reference.ensures)

    again : c.put_node.new.self ≡ put text_cmp f.0 y c.take.new.self
    again = c.put_node.ensures.entries ∙ ap (λ (g : Text × Record). put text_cmp g.0 g.1 c.take.new.self) c.fill.ensures

pub invariant_of-self-in-Some-2 : goal.invariant_of-self-in-Some-2
invariant_of-self-in-Some-2 c = (
  renewed due_of m c.self.inside.dues c.in_order.ensures c.in_order-2.ensures c.self.invariant.0 c.args.reference.now c.take.result c.take.ensures.node
      f there y
      c.take.new.self c.put_node.new.self c.move_moment.new.moments c.take.ensures.entries again c.move_moment.ensures,
  renewed lapse_of m c.self.inside.lapses c.in_order.ensures c.in_order-3.ensures c.self.invariant.1 c.args.reference.now c.take.result c.take.ensures.node
      f there y
      c.take.new.self c.put_node.new.self c.move_moment-in-Some.new.moments c.take.ensures.entries again
      (c.move_moment-in-Some.ensures ∙ (λ i. put moment_cmp (c.lapse_of.ensures i, f.0) (tt {0}) (without moment_cmp (c.lapse_of-lapsed.ensures i, f.0) c.self.inside.lapses))),
)
  where
    m : Map Record
    m = c.self.inside.entries

    f : Text × Record
    f = c.open-reference.result.0

    y : Record
    y = record f.1 { due = c.unwrap_or.result; lease = c.args.lease }

    there : c.take.result ≡ Some f
    there = c.in-Some.is ∙ ap Some (sym c.open-reference.ensures)

    again : c.put_node.new.self ≡ put text_cmp f.0 y c.take.new.self
    again = c.put_node.ensures.entries ∙ ap (λ (g : Text × Record). put text_cmp g.0 g.1 c.take.new.self) c.fill.ensures

pub invariant_of-self-in_default : goal.invariant_of-self-in_default
invariant_of-self-in_default c = (
  none_out due_of c.self.inside.entries c.self.inside.dues c.in_order.ensures c.in_order-2.ensures c.self.invariant.0 c.args.reference.now c.take.result c.take.ensures.node c.in_default.is c.take.new.self c.take.ensures.entries,
  none_out lapse_of c.self.inside.entries c.self.inside.lapses c.in_order.ensures c.in_order-3.ensures c.self.invariant.1 c.args.reference.now c.take.result c.take.ensures.node c.in_default.is c.take.new.self c.take.ensures.entries,
)

pub returns-in-Some : goal.returns-in-Some
returns-in-Some c = elim c.match-put_node.branch [ in-Some-1 w ↦ w.self-is ∙ made | in-None-2 w ↦ w.self-is ∙ made ]
  where
    f : Text × Record
    f = c.open-reference.result.0

    y : Record
    y = record f.1 { due = c.unwrap_or.result; lease = c.args.lease }

    made : c.put_node.new.self ≡ rerecorded_at c.args.reference.now c.args.due c.args.lease (get c.args.self.now c.args.reference.now) c.args.self.now
    made =
        renewed_is due_of c.self.inside.entries c.self.inside.dues c.in_order.ensures c.in_order-2.ensures c.self.invariant.0 c.args.reference.now c.take.result c.take.ensures.node
        f (c.in-Some.is ∙ ap Some (sym c.open-reference.ensures)) c.args.due c.args.lease y (ap (λ d. record f.1 { due = d; lease = c.args.lease }) c.unwrap_or.ensures)
        c.take.new.self c.put_node.new.self c.take.ensures.entries (c.put_node.ensures.entries ∙ ap (λ (g : Text × Record). put text_cmp g.0 g.1 c.take.new.self) c.fill.ensures)
        ∙ ap (λ m. rerecorded_at c.args.reference.now c.args.due c.args.lease (get m c.args.reference.now) m) c.self.view_is

pub returns-in_default : goal.returns-in_default
returns-in_default c =
    none_renewed due_of c.self.inside.entries c.self.inside.dues c.in_order.ensures c.in_order-2.ensures c.self.invariant.0 c.args.reference.now c.take.result c.take.ensures.node c.in_default.is
    c.args.due c.args.lease c.take.new.self c.take.ensures.entries
    ∙ ap (λ m. rerecorded_at c.args.reference.now c.args.due c.args.lease (get m c.args.reference.now) m) c.self.view_is
