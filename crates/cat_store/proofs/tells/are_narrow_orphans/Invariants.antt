use Rattle.std.proofs.Common.{◌≡◌}
use Rattle.std.specs.List.{AllByRecursion, list_all}
use Rattle.cat_collections.specs.Left.{items_left}
use Rattle.cat_store.specs.Tells.{IsProperOrphan, is_narrow_orphan}
use Rattle.cat_store.proofs.tells.are_narrow_orphans.Given as goal

abbrev pub invariant-loop-orphan : goal.invariant-loop-orphan
invariant-loop-orphan l =
    goal.iterator-loop-orphan.can_next l.orphan-iterator
    × goal.iterator-loop-orphan.is_finite l.orphan-iterator
    × (list_all is_narrow_orphan (items_left l.orphan-iterator) ≡ list_all is_narrow_orphan l.orphans)
    × (AllByRecursion IsProperOrphan (items_left l.orphan-iterator) → AllByRecursion IsProperOrphan l.orphans)
