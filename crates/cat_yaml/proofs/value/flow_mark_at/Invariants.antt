use Rattle.std.proofs.Common.{◌≡◌, drop}
use Rattle.cat_yaml.specs.Value.{flow_from}
use Rattle.cat_yaml.proofs.value.flow_mark_at.Given as goal

-- none stands before i
abbrev pub invariant-loop-i : goal.invariant-loop-i
invariant-loop-i l = flow_from l.i (drop l.i l.bytes) ≡ flow_from 0 l.bytes
