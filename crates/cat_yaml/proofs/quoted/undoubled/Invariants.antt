use Rattle.std.proofs.Common.{◌≡◌, ◌++◌, false, drop}
use Rattle.cat_yaml.specs.Quoted.{undoubled}
use Rattle.cat_yaml.proofs.quoted.undoubled.Given as goal

-- the text so far, with what is left, is the whole text
abbrev pub invariant-loop-byte : goal.invariant-loop-byte
invariant-loop-byte l = l.text.items ++ undoubled l.after (drop l.byte-index l.bytes) ≡ undoubled false l.bytes
