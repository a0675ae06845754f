use Rattle.std.proofs.Common.{length}
use Rattle.cat_model.specs.Catalogue.{claims, row_at}
use Rattle.cat_claims.proofs.Waits.{IsSearched}
use Rattle.cat_claims.proofs.waiting.next_claim.Given as goal

-- none that was taken off may claim
abbrev pub invariant-loop-arrival : goal.invariant-loop-arrival
invariant-loop-arrival l = IsSearched (λ a. claims l.holders (row_at l.rows a)) l.initial.waiting l.waiting

abbrev pub decreases-loop-arrival : goal.decreases-loop-arrival
decreases-loop-arrival l = length l.waiting
