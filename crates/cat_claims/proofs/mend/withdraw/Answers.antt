use Rattle.std.proofs.Common.{rules, ap, ◌∙◌}
use Rattle.cat_collections.specs.Table.{text_cmp}
use Rattle.cat_collections.specs.Rows.{without}
use Rattle.cat_collections.proofs.Tables.{text_total, text_antisymmetric}
use Rattle.cat_claims.proofs.Outside.{outside_more, outside_none}
use Rattle.cat_claims.proofs.mend.withdraw.Goals as goal

pub loop-reference-preserved : goal.loop-reference-preserved
loop-reference-preserved c = outside_more text_total text_antisymmetric c.args.refs.now c.loop-reference.reference-index c.reference-item.result c.args.holders.now c.loop-reference.holders c.remove.new.self (search rules)
    (c.in_ok-remove.ensures ∙ ap (λ r. without text_cmp r c.loop-reference.holders) c.reference-item.is) c.loop-reference.invariant

pub loop-reference-init : goal.loop-reference-init
loop-reference-init c = outside_none text_total text_antisymmetric c.args.holders.now c.in_order.ensures
