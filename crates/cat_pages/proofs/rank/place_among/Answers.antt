use Rattle.std.proofs.Common.{◌++◌, map, take, sym, ap, ◌∙◌, arith}
use Rattle.cat_pages.specs.Seen.{ranked_seen}
use Rattle.cat_pages.proofs.Ordered.{put_here, put_later, put_last}
use Rattle.cat_pages.proofs.rank.place_among.Goals as goal

pub returns-then-is_before-clause-put : goal.returns-then-is_before-clause-put
returns-then-is_before-clause-put c =
    c.loop-place.invariant.1
    ∙ ap (λ l. map ranked_seen (take c.loop-place.place c.args.kept.now) ++ l)
    (put_here c.args.falls (ranked_seen c.args.document.now) c.args.kept.now c.loop-place.place c.index-kept-place.result c.loop-place-test.true c.index-kept-place.is
    (sym c.is_before.ensures ∙ c.if-is_before.true))

pub returns-clause-put : goal.returns-clause-put
returns-clause-put c =
    c.loop-place.invariant.1
    ∙ ap (λ l. map ranked_seen (take c.loop-place.place c.args.kept.now) ++ l)
    (put_last c.args.falls (ranked_seen c.args.document.now) c.args.kept.now c.loop-place.place c.loop-place-test.false)

pub loop-place-preserved : goal.loop-place-preserved
loop-place-preserved c = (
  omega arith,
  put_later c.args.falls (ranked_seen c.args.document.now) c.args.kept.now c.loop-place.place c.index-kept-place.result _ c.loop-place-test.true c.index-kept-place.is
      (sym c.is_before.ensures ∙ c.if-is_before.false) c.loop-place.invariant.1,
)
