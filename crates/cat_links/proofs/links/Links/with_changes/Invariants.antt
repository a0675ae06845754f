use Rattle.std.proofs.Common.{◌≡◌, ◌++◌, drop}
use Rattle.cat_links.specs.Changes.{touched, with_changes}
use Rattle.cat_links.proofs.links.Links.with_changes.Given as goal

-- with the changes that are left made too, the table is that with all of them, and the relations are all that they touch
abbrev pub invariant-loop-change : goal.invariant-loop-change
invariant-loop-change l = record {
  links : with_changes l.links (drop l.change-index l.changes) ≡ with_changes l.self l.changes;
  relations : l.list.items ++ touched l.links (drop l.change-index l.changes) ≡ touched l.self l.changes;
}
