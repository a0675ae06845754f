-- What contracts see of a line of the code.
use Rattle.cat_yaml.specs.Lines.{Line}
use Rattle.cat_yaml.specs.declared.line.Line.{Line as Lent}

-- a line with its bytes
abbrev pub seen_line : Lent → Line
seen_line l = record { width = l.width; content = l.content.now }
