use Rattle.std.proofs.Common.{◌≡◌, map, drop}
use Rattle.cat_query.specs.Project.{has_end}
use Rattle.cat_query.proofs.project.has_end.Given as goal

-- a path that ends is among those that are left
abbrev pub invariant-loop-path : goal.invariant-loop-path
invariant-loop-path l = has_end (map (λ p. p.now) (drop l.path-index l.paths)) ≡ has_end (map (λ p. p.now) l.paths)
