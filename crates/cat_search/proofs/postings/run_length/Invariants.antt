use Rattle.std.proofs.Common.{◌≡◌, ◌≤◌, ◌-◌, length, take, true}
use Rattle.std.specs.List.{list_all}
use Rattle.std.specs.Ordering.{eq_by_cmp}
use Rattle.cat_search.specs.Index.{term_cmp}
use Rattle.cat_search.proofs.postings.run_length.Given as goal

-- those so far have the term
abbrev pub invariant-loop-count : goal.invariant-loop-count
invariant-loop-count l = (l.count ≤ length l.postings) × (list_all (λ p. eq_by_cmp term_cmp l.term p.0) (take l.count l.postings) ≡ true)

abbrev pub decreases-loop-count : goal.decreases-loop-count
decreases-loop-count l = length l.postings - l.count
