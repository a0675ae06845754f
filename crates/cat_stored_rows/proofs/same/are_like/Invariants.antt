use Rattle.std.proofs.Common.{◌≡◌, drop}
use Rattle.std.specs.Slice.Iter.{iter_rest}
use Rattle.cat_stored_rows.proofs.same.are_like.Given as goal

-- all items are equal just where those that are left are
abbrev pub invariant-loop-item : goal.invariant-loop-item
invariant-loop-item g l =
    (drop l.item-index l.left ≡ iter_rest l.others → l.left ≡ l.right) × (l.left ≡ l.right → drop l.item-index l.left ≡ iter_rest l.others)
