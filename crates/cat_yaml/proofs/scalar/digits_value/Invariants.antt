use Rattle.std.proofs.Common.{◌≡◌, ◌≤◌, ◌^◌, drop}
use Rattle.cat_yaml.specs.Scalar.{digits_value}
use Rattle.cat_yaml.proofs.scalar.digits_value.Given as goal

-- the value so far, with the digits that are left, is that of all digits
abbrev pub invariant-loop-digit : goal.invariant-loop-digit
invariant-loop-digit l =
    (l.value ≤ 2 ^ 64)
    × (digits_value l.value (drop l.digit-index l.digits) ≡ digits_value 0 l.digits)
