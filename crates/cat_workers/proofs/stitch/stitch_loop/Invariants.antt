use Rattle.cat_workers.specs.Kinds.{stitcher}
use Rattle.cat_workers.specs.Rounds.{GoesOn}
use Rattle.cat_workers.proofs.stitch.stitch_loop.Given as goal

abbrev pub invariant-loop : goal.invariant-loop
invariant-loop g l = GoesOn stitcher g.D.WorkDesk.acts (g.G.Gate.told l.gate) (g.G.Gate.said l.gate) l.after l.fn.desk l.desk
