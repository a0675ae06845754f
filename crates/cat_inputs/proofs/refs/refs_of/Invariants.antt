use Rattle.std.proofs.Common.{◌≡◌, ◌+◌, map, drop}
use Rattle.cat_inputs.specs.Body.{with_front, each_from}
use Rattle.cat_inputs.specs.Inputs.{ref_at}
use Rattle.cat_inputs.proofs.refs.refs_of.Given as goal

-- the references so far, with those of the texts that are left, are those of all texts
abbrev pub invariant-loop-text : goal.invariant-loop-text
invariant-loop-text l =
    (l.place ≡ l.initial.place + l.text-index)
    × (with_front l.refs.items (each_from ref_at l.place (map (λ t. t.now) (drop l.text-index l.texts)))
    ≡ each_from ref_at l.initial.place (map (λ t. t.now) l.texts))
