use Rattle.std.proofs.Common.{◌≡◌, ◌≤◌, length, drop}
use Rattle.cat_collections.specs.Table.{tabulate, text_cmp}
use Rattle.cat_state_check.proofs.documents.indexed.Given as goal

-- those from the place on have their documents
abbrev pub invariant-loop-left : goal.invariant-loop-left
invariant-loop-left g l = (l.left ≤ length l.keys) × (l.index ≡ tabulate text_cmp (drop l.left l.keys) (g.F.Gives.gives l.f))

abbrev pub decreases-loop-left : goal.decreases-loop-left
decreases-loop-left g l = l.left
