use Rattle.std.proofs.Common.{sym, ap, ◌∙◌, arith}
use Rattle.std.proofs.lemmas.List.{at_drop_all}
use Rattle.cat_collections.specs.Table.{text_cmp}
use Rattle.cat_types.specs.Amended.{without_all}
use Rattle.cat_mutations.proofs.Left.{left_is}
use Rattle.cat_mutations.proofs.items.items_left.Goals as goal

pub returns : goal.returns
returns c =
    let refs = c.args.refs.now in
    let l = c.loop-reference in
    sym (at_drop_all (λ rs. without_all text_cmp rs l.rest) refs l.reference-index (omega arith))
    ∙ (l.invariant ∙ (ap (without_all text_cmp refs) c.in_ok-rest.ensures ∙ left_is refs c.args.items.now c.in_order.ensures))
