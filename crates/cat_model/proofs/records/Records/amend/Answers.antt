use Rattle.std.proofs.Common.{arith, ap, sym, ◌∙◌, ◌+◌, ◌∷◌, List, drop, length}
use Rattle.std.proofs.lemmas.List.{drop_more}
use Rattle.std.specs.Vec.Iter.{into_iter_items}
use Rattle.cat_collections.specs.Table.{Map, Text, puts, text_cmp, text_total, text_antisymmetric}
use Rattle.cat_types.specs.Amended.{without_all}
use Rattle.cat_model.specs.declared.types.Record.{Record}
use Rattle.cat_model.proofs.Dues.{count_least, count_most}
use Rattle.cat_model.proofs.records.Records.amend.Goals as goal

pub loop-reference-preserved : goal.loop-reference-preserved
loop-reference-preserved c =
    let i = c.loop-reference.reference-index in
    let gone = c.args.gone.now in
    let m = c.loop-reference.self in (
      ap (λ (x : Map Record). without_all text_cmp (drop (i + 1) gone) x) c.remove.ensures
          ∙ (ap (λ (r : Text). without_all text_cmp (r ∷ drop (i + 1) gone) m) c.reference-item.is
          ∙ (ap (λ (l : List Text). without_all text_cmp l m) (sym (drop_more gone i c.reference-item.result c.loop-reference-test.true)) ∙ c.loop-reference.invariant.0)),
      omega (arith, ap length c.remove.ensures, count_least text_total text_antisymmetric c.reference-item.result m c.in_order.ensures, c.loop-reference.invariant.1),
    )

pub loop-record-preserved : goal.loop-record-preserved
loop-record-preserved c =
    let steps = c.in-Some.ensures.steps.0 in (
      tt,
      tt,
      ap (puts text_cmp (into_iter_items c.next.new.self)) c.put_ready.ensures ∙ (ap (λ l. puts text_cmp l c.loop-record.self) (sym steps) ∙ c.loop-record.invariant.2),
      omega (arith, ap length c.put_ready.ensures, count_most text_total text_antisymmetric c.in-Some.record.0 c.in-Some.record.1 c.loop-record.self c.in_order-in-loop-record.ensures, ap length steps, c.loop-record.invariant.3),
    )
