use Rattle.std.proofs.Common.{◌≡◌, drop}
use Rattle.cat_yaml.specs.Scalar.{after_digits}
use Rattle.cat_yaml.proofs.scalar.after_digits.Given as goal

-- the bytes so far are digits
abbrev pub invariant-loop-i : goal.invariant-loop-i
invariant-loop-i l = after_digits (drop l.i l.bytes) ≡ after_digits l.bytes
