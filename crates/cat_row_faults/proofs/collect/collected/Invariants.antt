use Rattle.std.proofs.Common.{◌≡◌, ◌++◌, drop}
use Rattle.std.specs.List.{flat_map}
use Rattle.cat_row_faults.specs.Readings.{read_rows}
use Rattle.cat_row_faults.proofs.collect.collected.Given as goal

-- what the rows that are left tell, behind what those so far told, is the whole
abbrev pub invariant-loop-reading : goal.invariant-loop-reading
invariant-loop-reading g l = l.made.items ++ flat_map g.T.Tells.tells (read_rows (drop l.reading-index l.readings)) ≡ flat_map g.T.Tells.tells (read_rows l.readings)
