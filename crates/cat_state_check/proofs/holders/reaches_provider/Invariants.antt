use Rattle.std.proofs.Common.{◌≡◌}
use Rattle.cat_state_check.specs.Above.{climbs_from}
use Rattle.cat_state_check.proofs.holders.reaches_provider.Given as goal

abbrev pub invariant-loop-left : goal.invariant-loop-left
invariant-loop-left l = climbs_from l.rows l.holders l.left l.at ≡ climbs_from l.rows l.holders l.most l.arrival

abbrev pub decreases-loop-left : goal.decreases-loop-left
decreases-loop-left l = l.left
