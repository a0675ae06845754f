use Rattle.std.proofs.Common.{◌≡◌, take}
use Rattle.std.specs.List.{count_by}
use Rattle.std.specs.Ordering.{eq_by_cmp}
use Rattle.cat_collections.specs.Table.{find}
use Rattle.cat_row_faults.proofs.Noting.{seen}
use Rattle.cat_row_faults.proofs.noted.noted.Given as goal

-- it is noted how often each key stood so far
abbrev pub invariant-loop-key : goal.invariant-loop-key
invariant-loop-key g l = (k : g.row.K.Denot) → find g.K.Key.order k l.made ≡ seen (count_by (eq_by_cmp g.K.Key.order k) (take l.key-index l.keys))
