use Rattle.std.proofs.Common.{◌≡◌, ◌++◌, drop}
use Rattle.cat_search.specs.Index.{postings}
use Rattle.cat_search.proofs.postings.gathered.Given as goal

-- the postings so far and those of the references that are left are all
abbrev pub invariant-loop-entry : goal.invariant-loop-entry
invariant-loop-entry l = l.found.items ++ postings l.documents (drop l.entry-index l.entries) ≡ postings l.documents l.entries
