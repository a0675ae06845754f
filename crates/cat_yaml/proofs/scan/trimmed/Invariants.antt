use Rattle.std.proofs.Common.{◌≡◌, ◌≤◌, length, take}
use Rattle.cat_yaml.specs.Scan.{trimmed}
use Rattle.cat_yaml.proofs.scan.trimmed.Given as goal

-- what stands from the end on is dropped
abbrev pub invariant-loop-end : goal.invariant-loop-end
invariant-loop-end l = (l.end ≤ length l.bytes) × (trimmed l.byte (take l.end l.bytes) ≡ trimmed l.byte l.bytes)

abbrev pub decreases-loop-end : goal.decreases-loop-end
decreases-loop-end l = l.end
