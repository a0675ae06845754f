use Rattle.std.proofs.Common.{◌≡◌, map, ◌++◌}
use Rattle.cat_owned_map.specs.BoxedLeft.{boxed_left}
use Rattle.cat_collections.specs.Table.{keys}
use Rattle.cat_model.specs.Catalogue.{emits, output_of}
use Rattle.cat_state_check.proofs.links.emissions.Given as goal

-- what was emitted so far and what the emitters that are left emit is all
abbrev pub invariant-loop-emitter : goal.invariant-loop-emitter
invariant-loop-emitter g l =
    (goal.iterator-loop-emitter g).can_next l.emitter-iterator
    × (goal.iterator-loop-emitter g).is_finite l.emitter-iterator
    × (l.changes.items ++ map (λ e. record { emitter = e; relations = emits g.L.Layers.rules e (output_of l.records e) }) (keys (boxed_left l.emitter-iterator))
    ≡ map (λ e. record { emitter = e; relations = emits g.L.Layers.rules e (output_of l.records e) }) (keys l.records))
