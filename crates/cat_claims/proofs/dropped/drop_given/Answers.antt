use Rattle.std.proofs.Common.{ap, ◌∙◌, nat_cmp}
use Rattle.std.proofs.lemmas.Result.{IfOk-weaker}
use Rattle.cat_claims.specs.Touched.{outside}
use Rattle.cat_claims.proofs.Left.{given_outside}
use Rattle.cat_claims.proofs.dropped.drop_given.Goals as goal

pub returns : goal.returns
returns c =
    let rows = c.args.rows.now in
    IfOk-weaker c.remove_rows.result _ _ (λ x e. e ∙ (ap (λ ks. outside nat_cmp ks rows) (c.as_slice.ensures ∙ c.in_ok-arrivals.ensures) ∙ given_outside rows c.args.entity.now)) c.remove_rows.ensures
