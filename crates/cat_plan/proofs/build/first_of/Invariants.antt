use Rattle.std.proofs.Common.{◌≡◌, drop}
use Rattle.cat_collections.specs.Table.{first}
use Rattle.cat_plan.proofs.build.first_of.Given as goal

abbrev pub invariant-loop-key : goal.invariant-loop-key
invariant-loop-key g l = first (g.F.Passes.passes l.f) (drop l.key-index l.keys) ≡ first (g.F.Passes.passes l.f) l.keys
