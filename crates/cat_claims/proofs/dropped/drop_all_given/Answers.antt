use Rattle.std.proofs.Common.{rules, ap, ◌∙◌, ◌∷◌, []}
use Rattle.cat_model.specs.Mend.{left_by}
use Rattle.cat_claims.proofs.Left.{left_more, left_none}
use Rattle.cat_claims.proofs.dropped.drop_all_given.Goals as goal

pub loop-reference-preserved : goal.loop-reference-preserved
loop-reference-preserved c = left_more c.args.refs.now c.loop-reference.reference-index c.reference-item.result c.args.rows.now c.loop-reference.rows c.drop_given.new.rows (search rules)
    (c.in_ok-drop_given.ensures ∙ ap (λ r. left_by (r ∷ []) c.loop-reference.rows) c.reference-item.is) c.loop-reference.invariant

pub loop-reference-init : goal.loop-reference-init
loop-reference-init c = left_none c.args.rows.now c.in_order.ensures
