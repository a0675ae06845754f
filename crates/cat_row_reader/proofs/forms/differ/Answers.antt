use Rattle.std.proofs.Common.{◌≡◌, true, false, ap, sym, ◌∙◌, is_some, arith}
use Rattle.std.proofs.lemmas.Grind.{common_steps}
use Rattle.cat_collections.specs.Table.{Text, get, put, text_cmp}
use Rattle.cat_types.specs.declared.input.Offered.{Offered}
use Rattle.cat_row_reader.proofs.Differing.{seen_more, still_differ, twice}
use Rattle.cat_row_reader.proofs.forms.differ.Goals as goal

pub returns-then-is_some : goal.returns-then-is_some
returns-then-is_some c =
    let e = c.index-offers-left.result in
    let seen : is_some (get c.loop-left.seen e.0) ≡ true = grind (arith, common_steps) in
    twice c.args.offers.now c.loop-left.left e c.loop-left-test.true c.loop-left.invariant.0 c.index-offers-left.is c.loop-left.seen c.loop-left.invariant.2 seen

pub loop-left-preserved : goal.loop-left-preserved
loop-left-preserved c =
    let m = c.args.offers.now in
    let e = c.index-offers-left.result in
    let more = seen_more m c.loop-left.left e c.loop-left-test.true c.loop-left.invariant.0 c.index-offers-left.is in
    let new : is_some (get c.loop-left.seen e.0) ≡ false = grind (arith, common_steps) in (
      omega arith,
      still_differ m c.loop-left.left e c.loop-left-test.true c.loop-left.invariant.0 c.index-offers-left.is c.loop-left.seen c.loop-left.invariant.2 new c.loop-left.invariant.1,
      (λ r. ap (λ s. is_some (get s r)) (c.in_ok-put.ensures ∙ ap (λ k. put text_cmp k (tt {0}) c.loop-left.seen) (c.in_ok-duplicate.ensures ∙ ap (λ (d : Text × Offered). d.0) (sym c.index-offers-left.is))) ∙ more c.loop-left.seen c.loop-left.invariant.2 r),
    )
