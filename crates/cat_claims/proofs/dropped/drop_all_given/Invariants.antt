use Rattle.std.proofs.Common.{◌≡◌, take}
use Rattle.cat_model.specs.Mend.{left_by}
use Rattle.cat_claims.proofs.dropped.drop_all_given.Given as goal

abbrev pub invariant-loop-reference : goal.invariant-loop-reference
invariant-loop-reference l = l.rows ≡ left_by (take l.reference-index l.refs) l.fn.rows
