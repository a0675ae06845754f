use Rattle.cat_workers.specs.Kinds.{worker}
use Rattle.cat_workers.specs.Rounds.{GoesOn}
use Rattle.cat_workers.proofs.work.work_loop.Given as goal

abbrev pub invariant-loop : goal.invariant-loop
invariant-loop g l = GoesOn worker g.D.WorkDesk.acts (g.G.Gate.told l.gate) (g.G.Gate.said l.gate) 0 l.fn.desk l.desk
