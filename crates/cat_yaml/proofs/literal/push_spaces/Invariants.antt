use Rattle.std.proofs.Common.{◌≡◌, ◌++◌, replicate}
use Rattle.cat_yaml.proofs.literal.push_spaces.Given as goal

-- so many spaces stand behind the text
abbrev pub invariant-loop-space : goal.invariant-loop-space
invariant-loop-space l = l.text.items ≡ l.initial.text.items ++ replicate l._space 32
