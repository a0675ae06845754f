use Rattle.std.proofs.Common.{◌++◌, ap, ◌∙◌}
use Rattle.cat_tree.specs.View.{data_of}
use Rattle.cat_query.proofs.Texts.{after_ok, facets_text}
use Rattle.cat_query.proofs.answers.push_facets_text.Goals as goal

pub returns-else-is_err-clause-ok : goal.returns-else-is_err-clause-ok
returns-else-is_err-clause-ok c =
    after_ok c.push_last-pushed.result _ _ (λ e. e ∙ ap (λ l. c.args.out.now.items ++ l) (facets_text (data_of c.args.facets.now))) c.push_last-pushed.ensures.ok
