use Rattle.std.proofs.Common.{◌≡◌, ◌+◌, ◌<◌, ◌^◌, length, drop}
use Rattle.cat_types.specs.declared.relation.Relation.{Relation}
use Rattle.cat_links.specs.Counts.{count_at, gained}
use Rattle.cat_links.proofs.counts.gain.Given as goal

-- with what is left counted too, the counts are those with all; no count passes its type until then
abbrev pub invariant-loop-relation : goal.invariant-loop-relation
invariant-loop-relation l = record {
  whole : gained (drop l.relation-index l.relations) l.counts ≡ gained l.relations l.initial.counts;
  room : (x : Relation) → count_at l.counts x + length (drop l.relation-index l.relations) < 2 ^ 64;
}
