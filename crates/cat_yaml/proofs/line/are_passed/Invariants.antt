use Rattle.std.proofs.Common.{◌≡◌, drop, map}
use Rattle.cat_yaml.specs.Lines.{are_passed}
use Rattle.cat_yaml.specs.SeenLine.{seen_line}
use Rattle.cat_yaml.proofs.line.are_passed.Given as goal

-- the lines so far are passed over
abbrev pub invariant-loop-line : goal.invariant-loop-line
invariant-loop-line l = are_passed (map seen_line (drop l.line-index l.lines)) ≡ are_passed (map seen_line l.lines)
