use Rattle.std.proofs.Common.{◌≡◌, ◌+◌, ◌-◌, ◌<◌, ◌≤◌, true, ap, arith, map, ◌++◌, sym, take, ◌∙◌}
use Rattle.cat_pages.specs.Seen.{ranked_seen}
use Rattle.cat_pages.specs.Walked.{behinds, candidates, falling, key_of, span}
use Rattle.cat_pages.proofs.Spans.{falling_step, holds_at, none_left, span_none}
use Rattle.cat_pages.proofs.listed.falling.Goals as goal

pub add_at-requires-clause-key : goal.add_at-requires-clause-key
add_at-requires-clause-key c =
    let i = c.loop-place.place - 1 in
    let h : c.args.start ≤ i = omega arith in
    let k : i < c.args.end = omega (arith, c.loop-place.invariant.0) in
    holds_at (λ e. e.0.0 ≡ key_of c.args.query.now.order) c.args.lists.now c.args.start c.args.end i h k c.requires.key

pub loop-place-preserved : goal.loop-place-preserved
loop-place-preserved c =
    let cs = candidates c.args.query.now c.args.docs.now in
    let lists = c.args.lists.now in
    let i = c.loop-place.place - 1 in
    let h : c.args.start ≤ i = omega arith in
    let next : c.loop-place.place ≡ i + 1 = omega arith in (
      omega (arith, c.loop-place.invariant.0),
      falling_step c.args.most cs _ _ _ lists c.args.start i h c.in_ok-add_at.ensures
          (ap (λ n. take c.args.most (map ranked_seen c.loop-place.found.items ++ falling (behinds (span c.args.start n lists)) cs)) (sym next) ∙ c.loop-place.invariant.1),
    )

pub returns : goal.returns
returns c =
    none_left c.args.most (map ranked_seen c.loop-place.found.items) _ true (candidates c.args.query.now c.args.docs.now) (span c.args.start c.loop-place.place c.args.lists.now)
    (span_none c.args.lists.now c.args.start c.loop-place.place c.loop-place-test.false) c.loop-place.invariant.1
