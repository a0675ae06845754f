use Rattle.std.proofs.Common.{◌≡◌, drop}
use Rattle.cat_search.specs.Index.{without_references}
use Rattle.cat_search.proofs.index.without_entries.Given as goal

-- without the references that are left, too, the set is without all
abbrev pub invariant-loop-entry : goal.invariant-loop-entry
invariant-loop-entry l = without_references (drop l.entry-index l.entries) l.set ≡ without_references l.entries l.references
