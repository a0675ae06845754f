use Rattle.std.proofs.Common.{refl, arith}
use Rattle.cat_row_format.proofs.Digits.{hex_step, small, wider}
use Rattle.cat_row_format.proofs.fields.hex_of.Goals as goal

pub overflow_mul-value : goal.overflow_mul-value
overflow_mul-value c =
    let bits = small c.loop-digit.value c.loop-digit.digit-index (omega arith) c.loop-digit.invariant.1 in
    omega (arith, bits)

pub overflow_add-value : goal.overflow_add-value
overflow_add-value c =
    let bits = small c.loop-digit.value c.loop-digit.digit-index (omega arith) c.loop-digit.invariant.1 in
    omega (arith, bits, c.in-Some.ensures.small)

pub loop-digit-preserved : goal.loop-digit-preserved
loop-digit-preserved c = (
  hex_step c.args.digits.now c.loop-digit.digit-index c.loop-digit.value c.in-Some.digit _ 0 c.loop-digit-test.true c.in-Some.ensures.value refl c.loop-digit.invariant.0,
  wider c.loop-digit.value c.in-Some.digit c.loop-digit.digit-index c.in-Some.ensures.small c.loop-digit.invariant.1,
)
