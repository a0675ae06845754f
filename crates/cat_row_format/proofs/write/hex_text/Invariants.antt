use Rattle.std.proofs.Common.{◌≡◌, ◌++◌, ◌≤◌, string_bytes}
use Rattle.cat_stitch.specs.Uid.{last_digits}
use Rattle.cat_row_format.proofs.write.hex_text.Given as goal

-- what was written, with the digits that are left, is the whole
abbrev pub invariant-loop-place : goal.invariant-loop-place
invariant-loop-place l =
    (l.place ≤ 16)
    × (string_bytes l.text ++ last_digits l.place l.number ≡ last_digits 16 l.number)

abbrev pub decreases-loop-place : goal.decreases-loop-place
decreases-loop-place l = l.place
