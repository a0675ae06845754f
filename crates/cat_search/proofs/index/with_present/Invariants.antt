use Rattle.std.proofs.Common.{◌≡◌, drop}
use Rattle.cat_search.specs.Index.{with_documents}
use Rattle.cat_search.proofs.index.with_present.Given as goal

-- with the documents of the references that are left listed too, all are
abbrev pub invariant-loop-entry : goal.invariant-loop-entry
invariant-loop-entry l = with_documents (drop l.entry-index l.entries) l.documents l.listed ≡ with_documents l.entries l.documents l.fn.listed
