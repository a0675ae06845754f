use Rattle.std.proofs.Common.{◌≡◌, ◌++◌, ◌≤◌, string_bytes}
use Rattle.cat_stitch.specs.Uid.{last_digits}
use Rattle.cat_stitch.proofs.uid.push_digits.Given as goal

-- what was written, with the digits that are left, is the whole
abbrev pub invariant-loop-place : goal.invariant-loop-place
invariant-loop-place l =
    (l.place ≤ l.fn.count)
    × (string_bytes l.text ++ last_digits l.place l.number ≡ string_bytes l.initial.text ++ last_digits l.fn.count l.number)

abbrev pub decreases-loop-place : goal.decreases-loop-place
decreases-loop-place l = l.place
