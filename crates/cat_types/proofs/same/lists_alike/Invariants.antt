use Rattle.std.proofs.Common.{◌≡◌, drop}
use Rattle.std.specs.Slice.Iter.{iter_rest}
use Rattle.cat_types.specs.Same.{same_list}
use Rattle.cat_types.proofs.same.lists_alike.Given as goal

abbrev pub invariant-loop-item : goal.invariant-loop-item
invariant-loop-item g l = same_list g.X.Same.same (drop l.item-index l.left) (iter_rest l.others) ≡ same_list g.X.Same.same l.left l.right
