use Rattle.std.proofs.Common.{◌≡◌, ◌≤◌, drop, length, map}
use Rattle.cat_collections.specs.Table.{tabulate}
use Rattle.cat_model.specs.Catalogue.{row_at}
use Rattle.cat_model.specs.Reply.{place_cmp, waits}
use Rattle.cat_replies.specs.Shown as seen
use Rattle.cat_replies.proofs.conflicts.waiting.Given as goal

-- the rows from the place on are in the table
abbrev pub invariant-loop-place : goal.invariant-loop-place
invariant-loop-place l =
    (l.place ≤ length l.rows)
    × (map seen.waiting l.found
    ≡ tabulate place_cmp (map (λ e. (e.1.reference, e.0)) (drop l.place (map (λ e. e.now) l.rows))) (λ k. waits l.state k.1 (row_at l.state.rows k.1)))

abbrev pub decreases-loop-place : goal.decreases-loop-place
decreases-loop-place l = l.place
