use Rattle.std.proofs.Common.{◌≡◌, ◌≤◌, min, fold, drop}
use Rattle.cat_query.specs.Query.{with_digit, number_of}
use Rattle.cat_query.proofs.parts.number.Given as goal

-- the number so far, with the digits that are left, is the number
abbrev pub invariant-loop-digit : goal.invariant-loop-digit
invariant-loop-digit l = (l.number ≤ 1001) × (min (fold with_digit l.number (drop l.digit-index l.digits)) 1001 ≡ min (number_of l.digits) 1001)
