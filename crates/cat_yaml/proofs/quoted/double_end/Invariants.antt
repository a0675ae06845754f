use Rattle.std.proofs.Common.{◌≡◌, ◌+◌, false, drop}
use Rattle.cat_yaml.specs.Quoted.{double_from}
use Rattle.cat_yaml.proofs.quoted.double_end.Given as goal

-- the end from i on is the end of all
abbrev pub invariant-loop-i : goal.invariant-loop-i
invariant-loop-i l = double_from (l.i + 1) l.escaped (drop l.i l.bytes) ≡ double_from 1 false l.bytes
