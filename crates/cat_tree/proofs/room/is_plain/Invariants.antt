use Rattle.std.proofs.Common.{◌≡◌, drop}
use Rattle.json.specs.Print.{escape}
use Rattle.cat_tree.proofs.room.is_plain.Given as goal

-- where what is left is plain, the whole is
abbrev pub invariant-loop-byte : goal.invariant-loop-byte
invariant-loop-byte l =
    escape (drop l.byte-index l.bytes) ≡ drop l.byte-index l.bytes → escape l.bytes ≡ l.bytes
