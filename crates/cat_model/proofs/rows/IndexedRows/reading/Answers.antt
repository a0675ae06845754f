use Rattle.std.proofs.Common.{ap, nat_cmp, sym, ◌∙◌}
use Rattle.std.proofs.lemmas.Result.{IfOk-weaker}
use Rattle.std.specs.FinMap.Entries.{is_sorted}
use Rattle.cat_collections.specs.Table.{keys}
use Rattle.cat_model.specs.Rows.{Rows, reading}
use Rattle.cat_model.proofs.Named.{read_are}
use Rattle.cat_model.proofs.rows.IndexedRows.reading.Goals as goal

pub returns : goal.returns
returns c =
    let name = c.args.name.now in
    let index = c.self.inside.by_name in
    let set = c.in_ok-arrivals.ensures in
    IfOk-weaker c.keys.result _ _
    (λ l e. e ∙ (ap keys set ∙ (read_are c.self.inside.rows index c.self.invariant.1 name c.in_order.ensures (sym (ap (is_sorted nat_cmp) set) ∙ c.in_order-2.ensures) ∙ ap (λ (m : Rows). reading m name) c.self.view_is)))
    c.keys.ensures
