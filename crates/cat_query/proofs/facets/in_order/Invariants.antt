use Rattle.std.proofs.Common.{◌≡◌, ◌≤◌, length, drop, Some}
use Rattle.cat_collections.specs.Table.{tabulate, text_cmp}
use Rattle.cat_query.proofs.facets.in_order.Given as goal

-- those from the place on are in order
abbrev pub invariant-loop-left : goal.invariant-loop-left
invariant-loop-left l = (l.left ≤ length l.texts) × (l.distinct ≡ tabulate text_cmp (drop l.left l.texts) (λ x. Some (tt {0})))

abbrev pub decreases-loop-left : goal.decreases-loop-left
decreases-loop-left l = l.left
