use Rattle.std.proofs.Common.{◌≡◌, ◌++◌, map, drop}
use Rattle.cat_query.specs.Project.{below}
use Rattle.cat_query.proofs.project.below.Given as goal

-- the rests so far and those of the paths that are left are all
abbrev pub invariant-loop-path : goal.invariant-loop-path
invariant-loop-path l =
    map (λ p. p.now) l.rests.items ++ below l.key (map (λ p. p.now) (drop l.path-index l.paths))
    ≡ below l.key (map (λ p. p.now) l.paths)
