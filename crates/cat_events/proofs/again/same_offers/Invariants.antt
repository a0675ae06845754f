use Rattle.std.proofs.Common.{◌≡◌, drop}
use Rattle.std.specs.Slice.Iter.{iter_rest}
use Rattle.cat_events.specs.Again.{same_offers}
use Rattle.cat_events.proofs.again.same_offers.Given as goal

abbrev pub invariant-loop-reference : goal.invariant-loop-reference
invariant-loop-reference l = same_offers (drop l.reference-index l.left) (iter_rest l.others) ≡ same_offers l.left l.right
