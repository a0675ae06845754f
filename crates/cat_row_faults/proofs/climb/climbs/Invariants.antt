use Rattle.std.proofs.Common.{◌≡◌}
use Rattle.cat_row_faults.specs.Rules.{climbs}
use Rattle.cat_row_faults.specs.Told.{asked}
use Rattle.cat_row_faults.proofs.climb.climbs.Given as goal

abbrev pub invariant-loop-left : goal.invariant-loop-left
invariant-loop-left l = climbs (asked l.told) l.left l.at ≡ climbs (asked l.told) l.steps l.arrival

abbrev pub decreases-loop-left : goal.decreases-loop-left
decreases-loop-left l = l.left
