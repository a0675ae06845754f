use Rattle.std.proofs.Common.{◌≡◌, ◌+◌, ◌≤◌, ◌++◌, length, drop, vec_len, vec_capacity}
use Rattle.json.specs.Print.{escape}
use Rattle.cat_tree.proofs.room.put_escaped.Given as goal

-- what was appended, with what is left, is the whole
abbrev pub invariant-loop-byte : goal.invariant-loop-byte
invariant-loop-byte l =
    (l.out.items ++ escape (drop l.byte-index l.bytes) ≡ l.initial.out.items ++ escape l.bytes)
    × (vec_len l.out + length (escape (drop l.byte-index l.bytes)) ≡ vec_len l.initial.out + length (escape l.bytes))
    × (vec_capacity l.initial.out ≤ vec_capacity l.out)
