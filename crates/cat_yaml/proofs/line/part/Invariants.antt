use Rattle.std.proofs.Common.{◌≡◌, ◌++◌, take, drop, map}
use Rattle.cat_yaml.specs.Lines.{part}
use Rattle.cat_yaml.specs.SeenLine.{seen_line}
use Rattle.cat_yaml.proofs.line.part.Given as goal

-- the lines so far are of the part
abbrev pub invariant-loop-i : goal.invariant-loop-i
invariant-loop-i l =
    part l.start (map seen_line l.lines) ≡ map seen_line (take l.i l.lines) ++ part l.start (map seen_line (drop l.i l.lines))
