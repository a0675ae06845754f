use Rattle.std.proofs.Common.{◌≡◌, sym, subst, nat_cmp}
use Rattle.std.specs.declared.option.Option.TheVariants.{None}
use Rattle.cat_collections.specs.Table.{put, text_cmp}
use Rattle.cat_model.specs.Rows.{Rows, row_at, with_arrival, with_given, with_read}
use Rattle.cat_model.proofs.Indexed.{put_indexed, same_indexed}
use Rattle.cat_model.proofs.Named.{put_read, same_read}
use Rattle.cat_model.proofs.rows.IndexedRows.put.Goals as goal

pub invariant_of-self-2 : goal.invariant_of-self-2
invariant_of-self-2 c =
    let rows = c.self.inside.rows in
    let a = c.args.arrival in
    let row = c.args.row in
    let entities = c.self.inside.by_entity in
    let references = c.self.inside.by_reference in (
      same_indexed (put nat_cmp a row rows) c.put.new.self (with_given row.origin a entities) c.in_ok-indexes.indexes.by_entity (with_arrival text_cmp row.reference a references) c.in_ok-indexes.indexes.by_reference
          c.in_ok-put.ensures c.in_ok-indexes.ensures.entity c.in_ok-indexes.ensures.reference
          (put_indexed rows entities references c.in_order.ensures c.self.invariant.0 a row (subst (λ (m : Rows). row_at m a ≡ None) (sym c.self.view_is) c.requires) c.in_ok-indexes.ensures.entity_order c.in_ok-indexes.ensures.reference_order),
      same_read (put nat_cmp a row rows) c.put.new.self (with_read rows a row c.self.inside.by_name) c.in_ok-by_name.by_name c.in_ok-put.ensures c.in_ok-by_name.ensures
          (put_read rows c.self.inside.by_name c.self.invariant.1 a row),
    )
