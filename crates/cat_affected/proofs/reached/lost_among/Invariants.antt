use Rattle.std.proofs.Common.{◌≡◌, take}
use Rattle.std.specs.List.{filter}
use Rattle.cat_affected.specs.Reach.{has_lost}
use Rattle.cat_affected.proofs.reached.lost_among.Given as goal

abbrev pub invariant-loop-reference : goal.invariant-loop-reference
invariant-loop-reference l = l.lost.items ≡ filter (has_lost l.before l.after) (take l.reference-index l.refs)
