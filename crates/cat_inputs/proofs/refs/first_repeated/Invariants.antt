use Rattle.std.proofs.Common.{◌≡◌, [], map, drop}
use Rattle.cat_inputs.specs.Inputs.{repeated}
use Rattle.cat_inputs.proofs.refs.first_repeated.Given as goal

-- the first among the texts that are left, where the set was seen, is the first of all
abbrev pub invariant-loop-i : goal.invariant-loop-i
invariant-loop-i l =
    repeated (map (λ t. t.now) l.seen.keys) l.i (map (λ t. t.now) (drop l.i l.texts))
    ≡ repeated [] 0 (map (λ t. t.now) l.texts)
