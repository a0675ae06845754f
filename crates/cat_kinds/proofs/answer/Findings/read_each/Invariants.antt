use Rattle.std.proofs.Common.{◌≡◌, ◌++◌, map, drop}
use Rattle.cat_kinds.specs.Mentions.{mention_of}
use Rattle.cat_kinds.specs.Kinds.{faults_of, stated_by}
use Rattle.cat_kinds.proofs.answer.Findings.read_each.Given as goal

-- what was found, with what is left, is the whole
abbrev pub invariant-loop-mention : goal.invariant-loop-mention
invariant-loop-mention l = record {
  faults : l.self.faults.items ++ faults_of l.namespace (map mention_of (drop l.mention-index l.mentions)) ≡ l.initial.self.faults.items ++ faults_of l.namespace (map mention_of l.mentions);
  stated : l.self.stated.items ++ stated_by l.source l.namespace (map mention_of (drop l.mention-index l.mentions)) ≡ l.initial.self.stated.items ++ stated_by l.source l.namespace (map mention_of l.mentions);
}
