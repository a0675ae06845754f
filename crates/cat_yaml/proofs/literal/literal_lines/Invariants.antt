use Rattle.std.proofs.Common.{◌≡◌, [], drop, map}
use Rattle.cat_yaml.specs.Literal.{literal_lines}
use Rattle.cat_yaml.specs.SeenLine.{seen_line}
use Rattle.cat_yaml.proofs.literal.literal_lines.Given as goal

-- the text so far, with the lines that are left, is the whole text
abbrev pub invariant-loop-line : goal.invariant-loop-line
invariant-loop-line l =
    literal_lines l.margin l.text.items (map seen_line (drop l.line-index l.lines))
    ≡ literal_lines l.margin [] (map seen_line l.lines)
