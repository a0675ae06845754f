use Rattle.std.proofs.Common.{◌≡◌, drop}
use Rattle.cat_feed.specs.Changes.{applied}
use Rattle.cat_feed.proofs.apply.applied.Given as goal

-- with the changes that are left applied, the documents are those after all
abbrev pub invariant-loop-change : goal.invariant-loop-change
invariant-loop-change l = applied (drop l.change-index l.changes) l.next ≡ applied l.changes l.documents
