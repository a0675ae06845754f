use Rattle.std.proofs.Common.{refl, sym, subst, nat_cmp}
use Rattle.cat_collections.specs.Table.{put}
use Rattle.cat_model.specs.Rows.{IsRowAt, Rows, with_read}
use Rattle.cat_model.proofs.Indexed.{replaced_indexed, same_indexed}
use Rattle.cat_model.proofs.Named.{put_read, same_read}
use Rattle.cat_model.proofs.rows.IndexedRows.replace.Goals as goal

pub invariant_of-self-2 : goal.invariant_of-self-2
invariant_of-self-2 c =
    let rows = c.self.inside.rows in
    let a = c.args.arrival in
    let row = c.args.row in
    let entities = c.self.inside.by_entity in
    let references = c.self.inside.by_reference in (
      same_indexed (put nat_cmp a row rows) c.put.new.self entities entities references references c.in_ok-put.ensures refl refl
          (replaced_indexed rows c.in_order.ensures a row (subst (λ (m : Rows). IsRowAt m a row.origin row.reference) (sym c.self.view_is) c.requires) entities references c.self.invariant.0),
      same_read (put nat_cmp a row rows) c.put.new.self (with_read rows a row c.self.inside.by_name) c.in_ok-by_name.by_name c.in_ok-put.ensures c.in_ok-by_name.ensures
          (put_read rows c.self.inside.by_name c.self.invariant.1 a row),
    )
