use Rattle.std.proofs.Common.{◌≡◌, take}
use Rattle.std.specs.List.{filter}
use Rattle.cat_plan.proofs.build.filtered.Given as goal

abbrev pub invariant-loop-key : goal.invariant-loop-key
invariant-loop-key g l = l.made.items ≡ filter (g.F.Passes.passes l.f) (take l.key-index l.keys)
