use Rattle.std.proofs.Common.{◌≡◌, ◌++◌, map, drop}
use Rattle.cat_query.specs.Query.{fields_of}
use Rattle.cat_query.proofs.parts.fields.Given as goal

-- the paths so far and those that are left are all
abbrev pub invariant-loop-text : goal.invariant-loop-text
invariant-loop-text l = l.paths.items ++ fields_of (map (λ t. t.now) (drop l.text-index l.texts)) ≡ fields_of (map (λ t. t.now) l.texts)
