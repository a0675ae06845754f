use Rattle.std.proofs.Common.{◌≡◌}
use Rattle.std.specs.Option.{option_map}
use Rattle.cat_collections.specs.Left.{items_left}
use Rattle.cat_collections.specs.Table.{first, keys}
use Rattle.cat_model.specs.Reply.{comes_after}
use Rattle.cat_core.proofs.known.orphan_after.Given as goal

-- the first of those that are left to come after is the first of all
abbrev pub invariant-loop-reference : goal.invariant-loop-reference
invariant-loop-reference l =
    goal.iterator-loop-reference.can_next l.reference-iterator
    × goal.iterator-loop-reference.is_finite l.reference-iterator
    × (first (comes_after (option_map (λ r. r.now) l.after)) (keys (items_left l.reference-iterator)) ≡ first (comes_after (option_map (λ r. r.now) l.after)) (keys l.orphans))
