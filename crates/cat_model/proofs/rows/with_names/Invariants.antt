use Rattle.std.proofs.Common.{◌≡◌, drop}
use Rattle.cat_model.specs.Rows.{with_names}
use Rattle.cat_model.proofs.rows.with_names.Given as goal

-- what the names that are left make of the index so far is what all make of it
abbrev pub invariant-loop-name : goal.invariant-loop-name
invariant-loop-name l = with_names (drop l.name-index l.names) l.arrival l.next ≡ with_names l.names l.arrival l.index
