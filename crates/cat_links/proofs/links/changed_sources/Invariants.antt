use Rattle.std.proofs.Common.{◌≡◌, ◌++◌, drop}
use Rattle.std.specs.List.{filter}
use Rattle.cat_links.specs.Links.{comes_or_goes, sources}
use Rattle.cat_links.proofs.links.changed_sources.Given as goal

-- with the sources of what is left of the relations, the list is that of all
abbrev pub invariant-loop-relation : goal.invariant-loop-relation
invariant-loop-relation l =
    l.sources.items ++ sources (filter (comes_or_goes l.before l.after) (drop l.relation-index l.touched)) ≡ sources (filter (comes_or_goes l.before l.after) l.touched)
