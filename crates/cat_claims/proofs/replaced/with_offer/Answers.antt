use Rattle.std.proofs.Common.{ap, sym, ◌∙◌}
use Rattle.cat_model.specs.Catalogue.{row_at}
use Rattle.cat_claims.proofs.Added.{below_put}
use Rattle.cat_claims.proofs.replaced.with_offer.Goals as goal

pub returns-clause-below : goal.returns-clause-below
returns-clause-below c = λ a row e. below_put c.args.numbered.rows c.args.numbered.next _ c.requires.below a row (sym (ap (λ z. row_at z a) c.in_ok-put.ensures) ∙ e)
