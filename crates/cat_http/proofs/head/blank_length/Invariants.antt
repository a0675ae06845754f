use Rattle.std.proofs.Common.{◌≡◌, ◌+◌, ◌-◌, ◌≤◌, length, drop}
use Rattle.cat_http.specs.Lines.{blank}
use Rattle.cat_http.proofs.head.blank_length.Given as goal

abbrev pub invariant-lines : goal.invariant-lines
invariant-lines l = (l.at ≤ length l.bytes) × (blank l.bytes ≡ l.at + blank (drop l.at l.bytes))

abbrev pub decreases-lines : goal.decreases-lines
decreases-lines l = length l.bytes - l.at
