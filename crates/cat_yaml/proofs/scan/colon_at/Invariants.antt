use Rattle.std.proofs.Common.{◌≡◌, drop}
use Rattle.cat_yaml.specs.Scan.{colon_from}
use Rattle.cat_yaml.proofs.scan.colon_at.Given as goal

-- no comment and no such colon stands before i
abbrev pub invariant-loop-i : goal.invariant-loop-i
invariant-loop-i l = colon_from l.i (drop l.i l.bytes) ≡ colon_from 0 l.bytes
