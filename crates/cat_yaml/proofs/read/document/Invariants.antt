use Rattle.std.proofs.Common.{◌≡◌, drop, map}
use Rattle.cat_yaml.specs.Reading.{document}
use Rattle.cat_yaml.specs.SeenLine.{seen_line}
use Rattle.cat_yaml.proofs.read.document.Given as goal

-- the lines so far are passed over
abbrev pub invariant-loop-i : goal.invariant-loop-i
invariant-loop-i l = document (map seen_line (drop l.i l.lines)) ≡ document (map seen_line l.lines)
