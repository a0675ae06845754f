use Rattle.std.proofs.Common.{◌≡◌, ◌++◌, map, drop}
use Rattle.cat_requests.specs.Bodies.{paths}
use Rattle.cat_requests.proofs.body.paths.Given as goal

-- the paths so far and those that are left are all
abbrev pub invariant-loop-text : goal.invariant-loop-text
invariant-loop-text l = l.paths.items ++ paths (map (λ t. t.now) (drop l.text-index l.texts)) ≡ paths (map (λ t. t.now) l.texts)
