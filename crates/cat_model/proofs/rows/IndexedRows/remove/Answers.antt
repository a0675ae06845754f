use Rattle.std.proofs.Common.{sym, subst, nat_cmp}
use Rattle.cat_collections.specs.Rows.{without}
use Rattle.cat_collections.specs.Table.{text_cmp}
use Rattle.cat_model.specs.Rows.{IsRowAt, Rows, names_of, row_at, without_arrival, without_given, without_names}
use Rattle.cat_model.proofs.Indexed.{less_indexed, same_indexed}
use Rattle.cat_model.proofs.Named.{less_read, same_read}
use Rattle.cat_model.proofs.rows.IndexedRows.remove.Goals as goal

pub invariant_of-self-2 : goal.invariant_of-self-2
invariant_of-self-2 c =
    let rows = c.self.inside.rows in
    let a = c.args.arrival in
    let o = c.args.origin.now in
    let r = c.args.reference.now in (
      same_indexed (without nat_cmp a rows) c.remove.new.self (without_given o a c.self.inside.by_entity) c.in_ok-indexes.indexes.by_entity (without_arrival text_cmp r a c.self.inside.by_reference) c.in_ok-indexes.indexes.by_reference
          c.in_ok-remove.ensures c.in_ok-indexes.ensures.entity c.in_ok-indexes.ensures.reference
          (less_indexed rows c.self.inside.by_entity c.self.inside.by_reference c.in_order.ensures c.self.invariant.0 a o r (subst (λ (m : Rows). IsRowAt m a o r) (sym c.self.view_is) c.requires)
          c.in_ok-indexes.ensures.entity_order c.in_ok-indexes.ensures.reference_order),
      same_read (without nat_cmp a rows) c.remove.new.self (without_names (names_of (row_at rows a)) a c.self.inside.by_name) c.in_ok-by_name.by_name
          c.in_ok-remove.ensures c.in_ok-by_name.ensures
          (less_read rows c.self.inside.by_name c.self.invariant.1 a),
    )
