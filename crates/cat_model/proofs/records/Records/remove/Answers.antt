use Rattle.std.proofs.Common.{ap, ◌∙◌}
use Rattle.cat_collections.specs.Rows.{without}
use Rattle.cat_collections.specs.Table.{Text}
use Rattle.cat_model.specs.Dues.{due_of, lapse_of, moment_cmp}
use Rattle.cat_model.specs.declared.types.Record.{Record}
use Rattle.cat_model.proofs.Dues.{none_out, taken_out}
use Rattle.cat_model.proofs.records.Records.remove.Goals as goal

pub invariant_of-self : goal.invariant_of-self
invariant_of-self c =
    let m = c.self.inside.entries in
    let d = c.self.inside.dues in
    let l = c.self.inside.lapses in
    let k = c.args.reference.now in (
      taken_out due_of m d c.in_order.ensures c.in_order-2.ensures c.self.invariant.0 k c.take.result c.take.ensures.node c.in-Some.former c.in-Some.is
          c.take.new.self c.strike.new.moments c.take.ensures.entries (c.strike.ensures.moments ∙ ap (λ (f : Text × Record). without moment_cmp (f.1.due, k) d) c.item.ensures),
      taken_out lapse_of m l c.in_order.ensures c.in_order-3.ensures c.self.invariant.1 k c.take.result c.take.ensures.node c.in-Some.former c.in-Some.is
          c.take.new.self c.strike-in-Some.new.moments c.take.ensures.entries (c.strike-in-Some.ensures.moments ∙ (ap (λ t. without moment_cmp (t, k) l) c.lapse_of.ensures ∙ ap (λ (f : Text × Record). without moment_cmp (lapse_of f.1, k) l) c.item.ensures)),
    )

pub invariant_of-self-in_default : goal.invariant_of-self-in_default
invariant_of-self-in_default c = (
  none_out due_of c.self.inside.entries c.self.inside.dues c.in_order.ensures c.in_order-2.ensures c.self.invariant.0 c.args.reference.now c.take.result c.take.ensures.node c.in_default.is c.take.new.self c.take.ensures.entries,
  none_out lapse_of c.self.inside.entries c.self.inside.lapses c.in_order.ensures c.in_order-3.ensures c.self.invariant.1 c.args.reference.now c.take.result c.take.ensures.node c.in_default.is c.take.new.self c.take.ensures.entries,
)
