use Rattle.std.proofs.Common.{◌≡◌, map, drop}
use Rattle.cat_inputs.specs.Body.{with_front, each_from}
use Rattle.cat_inputs.specs.Inputs.{item_at}
use Rattle.cat_inputs.specs.Lent.{entry_of}
use Rattle.cat_inputs.proofs.refs.items_of.Given as goal

-- the items so far, with those of the entries that are left, are those of all entries
abbrev pub invariant-loop-i : goal.invariant-loop-i
invariant-loop-i l =
    with_front l.items.items (each_from item_at l.i (map entry_of (drop l.i l.entries)))
    ≡ each_from item_at 0 (map entry_of l.entries)
