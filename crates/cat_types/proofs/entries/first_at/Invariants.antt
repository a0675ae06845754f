use Rattle.std.proofs.Common.{◌≡◌, drop}
use Rattle.cat_collections.specs.Table.{find}
use Rattle.cat_types.proofs.entries.first_at.Given as goal

-- what is found is found in what is left
abbrev pub invariant-loop-other : goal.invariant-loop-other
invariant-loop-other g l = find g.K.Key.order l.key (drop l.other-index l.rows) ≡ find g.K.Key.order l.key l.rows
