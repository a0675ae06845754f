use Rattle.std.proofs.Common.{◌≡◌, ◌+◌, false, drop}
use Rattle.cat_yaml.specs.Quoted.{single_from}
use Rattle.cat_yaml.proofs.quoted.single_end.Given as goal

-- the end from i on is the end of all
abbrev pub invariant-loop-i : goal.invariant-loop-i
invariant-loop-i l = single_from (l.i + 1) l.after (drop l.i l.bytes) ≡ single_from 1 false l.bytes
