use Rattle.std.proofs.Common.{◌≡◌, take}
use Rattle.std.specs.List.{filter_map}
use Rattle.cat_plan.proofs.Rising.{entry}
use Rattle.cat_plan.proofs.build.in_turn.Given as goal

abbrev pub invariant-loop-key : goal.invariant-loop-key
invariant-loop-key g l = l.made.items ≡ filter_map (entry (g.F.Gives.gives l.f)) (take l.key-index l.keys)
