use Rattle.std.proofs.Common.{◌≡◌, ◌++◌, map, drop}
use Rattle.cat_query.proofs.project.lent.Given as goal

-- the paths so far and those that are left are all
abbrev pub invariant-loop-path : goal.invariant-loop-path
invariant-loop-path l = map (λ p. p.now) l.paths.items ++ drop l.path-index l.path-items ≡ l.path-items
