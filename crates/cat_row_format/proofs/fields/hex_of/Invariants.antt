use Rattle.std.proofs.Common.{◌≡◌, ◌<◌, ◌*◌, ◌^◌, drop}
use Rattle.cat_row_format.specs.Parsed.{hex_from}
use Rattle.cat_row_format.proofs.fields.hex_of.Given as goal

-- the digits that are left make of the number so far that of all digits
abbrev pub invariant-loop-digit : goal.invariant-loop-digit
invariant-loop-digit l =
    (hex_from l.value (drop l.digit-index l.digits) ≡ hex_from 0 l.digits)
    × (l.value < 2 ^ (4 * l.digit-index))
