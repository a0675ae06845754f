use Rattle.std.proofs.Common.{ap, ◌∙◌}
use Rattle.cat_collections.specs.Places.{before}
use Rattle.cat_search.specs.Index.{term_cmp}
use Rattle.cat_pages.specs.Walked.{begins, key_of}
use Rattle.cat_pages.proofs.listed.start_of.Goals as goal

pub returns : goal.returns
returns c =
    c.place.ensures
    ∙ (λ i. before term_cmp (c.in_ok-key.ensures i, c.in_ok-begins.ensures i) c.args.lists.now)
    ∙ ap (λ f. before term_cmp (key_of c.args.query.now.order, begins f c.args.query.now.cursor) c.args.lists.now) c.is_falling.ensures
