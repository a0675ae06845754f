use Rattle.std.proofs.Common.{◌≡◌, map, take}
use Rattle.cat_affected.proofs.seeds.item_refs.Given as goal

abbrev pub invariant-loop-item : goal.invariant-loop-item
invariant-loop-item l = l.refs.items ≡ map (λ item. item.reference) (take l.item-index l.items)
