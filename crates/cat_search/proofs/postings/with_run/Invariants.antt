use Rattle.std.proofs.Common.{◌≡◌, drop, map}
use Rattle.cat_search.specs.Index.{with_references}
use Rattle.cat_search.proofs.postings.with_run.Given as goal

-- with the references that are left, too, it is the set with all
abbrev pub invariant-loop-posting : goal.invariant-loop-posting
invariant-loop-posting l = with_references (map (λ p. p.1) (drop l.posting-index l.run)) l.set ≡ with_references (map (λ p. p.1) l.run) l.initial.set
