use Rattle.std.proofs.Common.{◌≡◌, drop}
use Rattle.cat_yaml.specs.Scan.{comment_from}
use Rattle.cat_yaml.proofs.scan.comment_at.Given as goal

-- no comment begins before i
abbrev pub invariant-loop-i : goal.invariant-loop-i
invariant-loop-i l = comment_from l.i (drop l.i l.bytes) ≡ comment_from 0 l.bytes
