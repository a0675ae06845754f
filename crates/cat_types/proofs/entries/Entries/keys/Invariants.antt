use Rattle.std.proofs.Common.{◌≡◌, take}
use Rattle.cat_collections.specs.Table.{keys}
use Rattle.cat_types.proofs.entries.Entries.keys.Given as goal

abbrev pub invariant-loop-key : goal.invariant-loop-key
invariant-loop-key g l = l.names.items ≡ keys (take l.key-index l.key-items)
