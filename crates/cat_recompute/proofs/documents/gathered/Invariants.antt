use Rattle.std.proofs.Common.{◌≡◌, ◌++◌}
use Rattle.std.specs.List.{flat_map}
use Rattle.cat_collections.specs.Left.{items_left}
use Rattle.cat_collections.specs.Table.{keys}
use Rattle.cat_recompute.proofs.documents.gathered.Given as goal

-- what was gathered, and what those that are left give, is all
abbrev pub invariant-loop-reference : goal.invariant-loop-reference
invariant-loop-reference g l =
    (goal.iterator-loop-reference g).can_next l.reference-iterator
    × (goal.iterator-loop-reference g).is_finite l.reference-iterator
    × (l.relations ++ flat_map (g.F.Emits.emits l.f) (keys (items_left l.reference-iterator)) ≡ flat_map (g.F.Emits.emits l.f) (keys l.holders))
