use Rattle.std.proofs.Common.{sym, ◌∙◌}
use Rattle.cat_collections.specs.Table.{same_text}
use Rattle.cat_claims.proofs.Renewed.{all_changed, no_item, one_item}
use Rattle.cat_claims.proofs.replaced.renewed_rows.Goals as goal

pub loop-reference-preserved : goal.loop-reference-preserved
loop-reference-preserved g c =
    let q = c.reference-item.result in
    one_item c.args.origin.now (g.O.Offering.offers c.args.offers.now) (λ x a r. same_text r x) c.args.changed.now c.loop-reference.reference-index q q c.loop-reference.renewed c.renew_named.new.rows
    c.loop-reference-test.true c.reference-item.is c.in_ok-renew_named.ensures
    ∙ c.loop-reference.invariant

pub returns : goal.returns
returns g c =
    let o = c.args.origin.now in
    let f = g.O.Offering.offers c.args.offers.now in
    sym (no_item o f (λ x a r. same_text r x) c.args.changed.now c.loop-reference.reference-index c.loop-reference.renewed c.loop-reference-test.false c.in_order.ensures)
    ∙ (c.loop-reference.invariant ∙ all_changed o f c.args.changed.now c.args.rows.now c.requires)
