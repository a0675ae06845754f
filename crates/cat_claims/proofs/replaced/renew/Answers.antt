use Rattle.std.proofs.Common.{sym, ◌∙◌}
use Rattle.cat_claims.proofs.Renewed.{after_own, again_at, one_absent, one_less, one_other, one_put, row_there}
use Rattle.cat_claims.proofs.replaced.renew.Goals as goal

pub returns-in_default : goal.returns-in_default
returns-in_default g c = one_absent c.args.origin.now (g.O.Offering.offers c.args.offers.now) c.args.rows.now c.args.arrival c.in_order.ensures (sym c.in_default.ensures)

pub returns-then-not-is_same_origin : goal.returns-then-not-is_same_origin
returns-then-not-is_same_origin g c =
    one_other c.args.origin.now (g.O.Offering.offers c.args.offers.now) c.args.rows.now c.args.arrival c.in_order.ensures c.in-Some.row.now (sym c.in-Some.ensures) (sym c.if-not-is_same_origin.ensures)

pub replace-requires : goal.replace-requires
replace-requires g c = again_at c.args.rows.now c.args.arrival c.in-Some.row.now c.in-Some-2.next _ (sym c.in-Some.ensures) (sym c.in_ok-next.ensures ∙ c.in-Some-2.is)

pub returns-in_ok-replace-in-Some-2 : goal.returns-in_ok-replace-in-Some-2
returns-in_ok-replace-in-Some-2 g c =
    let row = c.in-Some.row.now in
    c.in_ok-replace-in-Some-2.ensures
    ∙ one_put c.args.origin.now (g.O.Offering.offers c.args.offers.now) c.args.rows.now c.args.arrival c.in_order.ensures row (sym c.in-Some.ensures) c.in-Some-2.next
    (after_own c.args.origin.now (g.O.Offering.offers c.args.offers.now) row _ _ (sym c.is_same_origin.ensures ∙ c.if-not-is_same_origin.false) c.offer.ensures (sym c.in-Some-2.is ∙ c.in_ok-next.ensures))

pub remove-requires : goal.remove-requires
remove-requires g c =
    row_there c.args.rows.now c.args.arrival c.in-Some.row.now c.args.origin.now c.in_ok-reference-in-None.reference (sym c.in-Some.ensures) (sym c.is_same_origin.ensures ∙ c.if-not-is_same_origin.false)
    c.in_ok-reference-in-None.ensures

pub returns-in_ok-remove-in-None : goal.returns-in_ok-remove-in-None
returns-in_ok-remove-in-None g c =
    let row = c.in-Some.row.now in
    c.in_ok-remove-in-None.ensures
    ∙ one_less c.args.origin.now (g.O.Offering.offers c.args.offers.now) c.args.rows.now c.args.arrival c.in_order.ensures row (sym c.in-Some.ensures)
    (after_own c.args.origin.now (g.O.Offering.offers c.args.offers.now) row _ _ (sym c.is_same_origin.ensures ∙ c.if-not-is_same_origin.false) c.offer.ensures (sym c.in-None.is ∙ c.in_ok-next.ensures))
