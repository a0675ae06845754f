use Rattle.std.proofs.Common.{◌≡◌, ◌++◌, drop, map}
use Rattle.cat_pages.specs.Page.{pair_seen}
use Rattle.cat_pages.proofs.documents.IndexDocuments.matching.Given as goal

-- those that were lent so far and those that are left are all
abbrev pub invariant-loop-entry : goal.invariant-loop-entry
invariant-loop-entry l = map pair_seen l.found.items ++ map (λ e. e.now) (drop l.entry-index l.entry-items) ≡ map (λ e. e.now) l.entry-items
