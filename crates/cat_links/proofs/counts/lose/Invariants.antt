use Rattle.std.proofs.Common.{◌≡◌, drop}
use Rattle.cat_links.specs.Counts.{lost}
use Rattle.cat_links.proofs.counts.lose.Given as goal

-- with what is left counted too, the counts are those with all
abbrev pub invariant-loop-relation : goal.invariant-loop-relation
invariant-loop-relation l = lost (drop l.relation-index l.relations) l.counts ≡ lost l.relations l.initial.counts
