use Rattle.std.proofs.Common.{ap, ◌∙◌}
use Rattle.std.specs.List.{list_any}
use Rattle.cat_model.specs.Catalogue.{row_at}
use Rattle.cat_model.specs.Rows.{is_from}
use Rattle.cat_claims.proofs.Added.{has_named}
use Rattle.cat_claims.proofs.replaced.has_row.Goals as goal

pub returns : goal.returns
returns c =
    c.any_from.ensures
    ∙ (ap (list_any (λ a. is_from c.args.origin.now (row_at c.args.rows.now a))) (c.as_slice.ensures ∙ c.in_ok-arrivals.ensures) ∙ has_named c.args.rows.now c.args.origin.now c.args.reference.now)
