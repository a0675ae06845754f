use Rattle.std.proofs.Common.{◌≡◌, drop}
use Rattle.cat_plan.specs.Amended.{without_all}
use Rattle.cat_events.proofs.apply.amended_map.Given as goal

-- without the references that are left to go the entries are those wanted
abbrev pub invariant-loop-reference : goal.invariant-loop-reference
invariant-loop-reference g l = without_all (drop l.reference-index l.gone) l.next ≡ without_all l.gone l.map
