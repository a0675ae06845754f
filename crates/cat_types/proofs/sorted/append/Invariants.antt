use Rattle.std.proofs.Common.{◌≡◌, ◌++◌, take}
use Rattle.cat_types.proofs.sorted.append.Given as goal

abbrev pub invariant-loop-item : goal.invariant-loop-item
invariant-loop-item g l = l.list.items ≡ l.initial.list.items ++ take l.item-index l.more
