use Rattle.std.proofs.Common.{◌≡◌, drop, map}
use Rattle.cat_yaml.specs.Literal.{margin}
use Rattle.cat_yaml.specs.SeenLine.{seen_line}
use Rattle.cat_yaml.proofs.literal.margin.Given as goal

-- the lines so far have only spaces
abbrev pub invariant-loop-line : goal.invariant-loop-line
invariant-loop-line l = margin (map seen_line (drop l.line-index l.lines)) ≡ margin (map seen_line l.lines)
