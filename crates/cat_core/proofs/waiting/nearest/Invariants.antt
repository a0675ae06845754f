use Rattle.std.proofs.Common.{◌≡◌, option_map}
use Rattle.cat_collections.specs.Left.{items_left}
use Rattle.cat_core.specs.Waits.{nearest, place_of}
use Rattle.cat_core.proofs.Nearer.{nearest_with}
use Rattle.cat_core.proofs.waiting.nearest.Given as goal

-- with the rows that are left, the best so far comes to the nearest of all
abbrev pub invariant-loop-row : goal.invariant-loop-row
invariant-loop-row l =
    goal.iterator-loop-row.can_next l.row-iterator
    × goal.iterator-loop-row.is_finite l.row-iterator
    × (nearest_with l.m (option_map (λ e. place_of e.now) l.after) (items_left l.row-iterator) (option_map (λ e. place_of e.now) l.best)
    ≡ nearest l.m (option_map (λ e. place_of e.now) l.after) l.rows)
