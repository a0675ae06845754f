use Rattle.std.proofs.Common.{◌++◌, ap, ◌∙◌}
use Rattle.cat_search.specs.Terms.{row_terms}
use Rattle.cat_search.proofs.Finds.{after_ok}
use Rattle.cat_search.proofs.terms.add_named.Goals as goal

pub returns : goal.returns
returns c =
    after_ok c.add_row.result _ _
    (λ e. e ∙ ap (λ k. c.args.found.now.items ++ row_terms (k, c.args.target.now)) (c.as_str.ensures ∙ c.in_ok-key.ensures))
    c.add_row.ensures
