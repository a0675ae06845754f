use Rattle.std.proofs.Common.{ap, ◌∙◌}
use Rattle.std.proofs.lemmas.Result.{IfOk-weaker}
use Rattle.cat_claims.specs.Change.{among}
use Rattle.cat_claims.specs.Renewed.{renewed}
use Rattle.cat_claims.proofs.Renewed.{named_chosen}
use Rattle.cat_claims.proofs.replaced.renew_named.Goals as goal

pub returns : goal.returns
returns g c =
    let o = c.args.origin.now in
    let f = g.O.Offering.offers c.args.offers.now in
    IfOk-weaker c.renew_all.result _ _
    (λ _ e. e ∙ (ap (λ l. renewed o f (λ a r. among a l) c.args.rows.now) (c.as_slice.ensures ∙ c.in_ok-arrivals.ensures) ∙ named_chosen o f c.args.rows.now c.args.reference.now))
    c.renew_all.ensures
