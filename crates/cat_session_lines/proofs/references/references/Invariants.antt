use Rattle.std.proofs.Common.{◌≡◌, map, drop}
use Rattle.cat_inputs.specs.Body.{with_front, each_from}
use Rattle.cat_session_lines.specs.References.{reference_at}
use Rattle.cat_session_lines.proofs.references.references.Given as goal

-- the references so far, with those of the texts that are left, are those of all texts
abbrev pub invariant-loop-i : goal.invariant-loop-i
invariant-loop-i l =
    with_front l.references.items (each_from reference_at l.i (map (λ t. t.now) (drop l.i l.texts)))
    ≡ each_from reference_at 0 (map (λ t. t.now) l.texts)
