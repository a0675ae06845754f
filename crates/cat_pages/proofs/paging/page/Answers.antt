use Rattle.std.proofs.Common.{ap, ◌∙◌, map, take, add-one, arith}
use Rattle.cat_pages.specs.Page.{following, next_after}
use Rattle.cat_pages.specs.Seen.{ranked_seen, pair_of}
use Rattle.cat_pages.proofs.Ordered.{page_from, next_from}
use Rattle.cat_pages.proofs.paging.page.Goals as goal

pub returns-clause-items : goal.returns-clause-items
returns-clause-items g c =
    let q = c.args.query.now in
    let rs = following q.filters q.order q.cursor (g.D.Documents.pairs c.args.docs.now) in
    ap (map pair_of) c.truncate.ensures.items ∙ page_from q.limit c.in_ok-first.first.items.items rs (c.in_ok-first.ensures.items ∙ (λ k. take (add-one q.limit k) rs))

pub returns-clause-next : goal.returns-clause-next
returns-clause-next g c =
    let q = c.args.query.now in
    let rs = following q.filters q.order q.cursor (g.D.Documents.pairs c.args.docs.now) in
    c.in_ok-next.ensures
    ∙ ap (next_after q.limit) (ap (map ranked_seen) c.as_slice.ensures.value ∙ c.in_ok-first.ensures.items ∙ (λ k. take (add-one q.limit k) rs))
    ∙ next_from q.limit rs (omega arith)
