use Rattle.std.proofs.Common.{◌≡◌, false, arith, map}
use Rattle.cat_pages.specs.Seen.{ranked_seen}
use Rattle.cat_pages.specs.Walked.{candidates, key_of, span}
use Rattle.cat_pages.proofs.Spans.{holds_at, none_left, rising_step, span_none}
use Rattle.cat_pages.proofs.listed.rising.Goals as goal

pub add_at-requires-clause-key : goal.add_at-requires-clause-key
add_at-requires-clause-key c =
    holds_at (λ e. e.0.0 ≡ key_of c.args.query.now.order) c.args.lists.now c.args.start c.args.end c.loop-place.place c.loop-place.invariant.0 c.loop-place-test.true c.requires.key

pub loop-place-preserved : goal.loop-place-preserved
loop-place-preserved c = (
  omega arith,
  rising_step c.args.most (candidates c.args.query.now c.args.docs.now) _ _ _ c.args.lists.now c.loop-place.place c.args.end c.loop-place-test.true c.in_ok-add_at.ensures c.loop-place.invariant.1,
)

pub returns : goal.returns
returns c =
    none_left c.args.most (map ranked_seen c.loop-place.found.items) _ false (candidates c.args.query.now c.args.docs.now) (span c.loop-place.place c.args.end c.args.lists.now)
    (span_none c.args.lists.now c.loop-place.place c.args.end c.loop-place-test.false) c.loop-place.invariant.1
