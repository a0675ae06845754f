use Rattle.std.proofs.Common.{ap, ◌∙◌}
use Rattle.cat_collections.specs.Places.{before}
use Rattle.cat_search.specs.Index.{term_cmp}
use Rattle.cat_pages.specs.Walked.{ends, key_of}
use Rattle.cat_pages.proofs.listed.end_of.Goals as goal

pub returns : goal.returns
returns c =
    c.place.ensures
    ∙ (λ i. before term_cmp (c.in_ok-key.ensures i, c.in_ok-ends.ensures i) c.args.lists.now)
    ∙ ap (λ f. before term_cmp (key_of c.args.query.now.order, ends f c.args.query.now.cursor) c.args.lists.now) c.is_falling.ensures
