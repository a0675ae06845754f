use Rattle.std.proofs.Common.{◌++◌}
use Rattle.cat_collections.specs.Table.{keys}
use Rattle.cat_claims.specs.Touched.{HasAll}
use Rattle.cat_claims.proofs.mend.note_all.Given as goal

abbrev pub invariant-loop-reference : goal.invariant-loop-reference
invariant-loop-reference l = HasAll (l.yielded ++ keys l.fn.noted) (keys l.noted)
