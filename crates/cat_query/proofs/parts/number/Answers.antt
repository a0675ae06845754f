use Rattle.std.proofs.Common.{◌*◌, ◌+◌, min, ap, ◌∙◌, arith}
use Rattle.cat_query.proofs.Parted.{digit_more}
use Rattle.cat_query.proofs.parts.number.Goals as goal

pub loop-digit-preserved : goal.loop-digit-preserved
loop-digit-preserved c = (
  omega (arith, c.min-number.ensures),
  digit_more c.args.digits.now c.loop-digit.digit-index c.loop-digit.number c.min-number.result _ c.loop-digit-test.true
      (c.min-number.ensures ∙ ap (λ x. min (c.loop-digit.number * 10 + x) 1001) (c.from.ensures ∙ c.saturating_sub.ensures))
      c.loop-digit.invariant.1,
)
