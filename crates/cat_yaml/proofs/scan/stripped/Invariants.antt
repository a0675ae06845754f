use Rattle.std.proofs.Common.{◌≡◌, drop}
use Rattle.cat_yaml.specs.Scan.{stripped}
use Rattle.cat_yaml.proofs.scan.stripped.Given as goal

-- the bytes so far are spaces
abbrev pub invariant-loop-i : goal.invariant-loop-i
invariant-loop-i l = stripped (drop l.i l.bytes) ≡ stripped l.bytes
