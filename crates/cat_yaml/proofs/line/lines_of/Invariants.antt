use Rattle.std.proofs.Common.{◌≡◌, ◌++◌, drop, map}
use Rattle.cat_yaml.specs.Lines.{line_of}
use Rattle.cat_yaml.specs.SeenLine.{seen_line}
use Rattle.cat_yaml.proofs.line.lines_of.Given as goal

-- the lines so far, with those that are left, are all lines
abbrev pub invariant-loop-line : goal.invariant-loop-line
invariant-loop-line l =
    map seen_line l.found.items ++ map line_of (map (λ x. x.now) (drop l.line-index l.line-items))
    ≡ map line_of (map (λ x. x.now) l.line-items)
