use Rattle.std.proofs.Common.{◌≡◌, ◌++◌, [], drop, map}
use Rattle.cat_plan.proofs.link_plan.left_changes.Given as goal

abbrev pub invariant-loop-reference : goal.invariant-loop-reference
invariant-loop-reference l =
    l.changes.items ++ map (λ r. record { emitter = r; relations = [] }) (drop l.reference-index l.leaving)
    ≡ map (λ r. record { emitter = r; relations = [] }) l.leaving
