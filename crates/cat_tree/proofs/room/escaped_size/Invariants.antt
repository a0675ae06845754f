use Rattle.std.proofs.Common.{◌≡◌, ◌+◌, ◌^◌, ◌≤◌, min, length, drop}
use Rattle.json.specs.Print.{escape}
use Rattle.cat_tree.proofs.room.escaped_size.Given as goal

-- the sum, with what is left, is the whole
abbrev pub invariant-loop-byte : goal.invariant-loop-byte
invariant-loop-byte l =
    (l.total ≤ 2 ^ 62)
    × (min (l.total + length (escape (drop l.byte-index l.bytes))) (2 ^ 62) ≡ min (2 + length (escape l.bytes)) (2 ^ 62))
