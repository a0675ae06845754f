use Rattle.std.proofs.Common.{◌+◌, ◌-◌, length}
use Rattle.cat_stored_rows.specs.Walk.{HasCome}
use Rattle.cat_stored_rows.proofs.walk.changes.Given as goal

abbrev pub invariant-loop-walk : goal.invariant-loop-walk
invariant-loop-walk g l = HasCome g.X.Told.told l.old l.new l.walk

-- how many rows are left
abbrev pub decreases-loop-walk : goal.decreases-loop-walk
decreases-loop-walk g l = (length l.old - l.walk.from) + (length l.new - l.walk.to)
