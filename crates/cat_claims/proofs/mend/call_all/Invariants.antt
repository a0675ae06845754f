use Rattle.std.proofs.Common.{◌++◌, take}
use Rattle.std.specs.List.{flat_map}
use Rattle.cat_collections.specs.Table.{keys}
use Rattle.cat_model.specs.Rows.{named}
use Rattle.cat_claims.specs.Change.{AreAmong}
use Rattle.cat_claims.proofs.mend.call_all.Given as goal

abbrev pub invariant-loop-reference : goal.invariant-loop-reference
invariant-loop-reference l = AreAmong (keys l.fn.waiting ++ flat_map (named l.rows) (take l.reference-index l.refs)) (keys l.waiting)
