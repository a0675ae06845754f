use Rattle.std.proofs.Common.{◌≡◌, ◌++◌, drop}
use Rattle.cat_plan.specs.Amended.{entries_of}
use Rattle.cat_plan.proofs.amended.entries_of.Given as goal

abbrev pub invariant-loop-reference : goal.invariant-loop-reference
invariant-loop-reference g l = l.made.items ++ entries_of (g.F.Gives.gives l.f) (drop l.reference-index l.refs) ≡ entries_of (g.F.Gives.gives l.f) l.refs
