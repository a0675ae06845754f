use Rattle.std.proofs.Common.{◌≡◌, drop, map}
use Rattle.cat_search.specs.Index.{without_references}
use Rattle.cat_search.proofs.postings.without_run.Given as goal

-- without the references that are left, too, it is the set without all
abbrev pub invariant-loop-posting : goal.invariant-loop-posting
invariant-loop-posting l = without_references (map (λ p. p.1) (drop l.posting-index l.run)) l.set ≡ without_references (map (λ p. p.1) l.run) l.initial.set
