use Rattle.std.proofs.Common.{arith}
use Rattle.cat_requests.proofs.Digits.{hex_room}
use Rattle.cat_requests.proofs.uid.hex_value.Goals as goal

pub overflow_mul-number : goal.overflow_mul-number
overflow_mul-number c =
    let r = hex_room c.loop-digit.number c.loop-digit.digit-index 0 c.loop-digit.invariant.below (omega (arith, c.loop-digit-test.true, c.requires.short)) (omega arith) in
    omega (arith, r)

pub overflow_add-number : goal.overflow_add-number
overflow_add-number c =
    let r = hex_room c.loop-digit.number c.loop-digit.digit-index c.hex_digit.result c.loop-digit.invariant.below (omega (arith, c.loop-digit-test.true, c.requires.short)) c.hex_digit.ensures.small in
    omega (arith, r)
