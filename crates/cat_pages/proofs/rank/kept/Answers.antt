use Rattle.std.proofs.Common.{◌≡◌, ◌+◌, ◌-◌, ap, map, drop, take, sym, ◌∙◌, arith}
use Rattle.cat_pages.specs.Page.{candidate, is_falling, kept_with, pair_seen, ranked}
use Rattle.cat_pages.specs.Seen.{ranked_seen}
use Rattle.cat_pages.proofs.Ordered.{kept_more}
use Rattle.cat_pages.proofs.rank.kept.Goals as goal

pub loop-left-preserved : goal.loop-left-preserved
loop-left-preserved c =
    let q = c.args.query.now in
    let ds = c.args.documents.now in
    let i = c.loop-left.left - 1 in
    let x = c.index-documents-left.result in
    let next : i + 1 ≡ c.loop-left.left = omega arith in (
      omega arith,
      kept_more (is_falling q.order) c.args.most (candidate q.order q.cursor) ds i x _ _ (omega arith) c.index-documents-left.is
          (c.loop-left.invariant.1 ∙ ap (λ k. take c.args.most (ranked q.order q.cursor (map pair_seen (drop k ds)))) (sym next))
          (c.in_ok-keep.ensures ∙ (λ k. kept_with (c.is_falling.ensures k) c.args.most (c.in_ok-candidate.ensures k) (map ranked_seen c.loop-left.kept.items))),
    )
