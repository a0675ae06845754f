use Rattle.std.proofs.Common.{◌≡◌, take}
use Rattle.cat_model.specs.Mend.{released}
use Rattle.cat_claims.proofs.mend.withdraw.Given as goal

abbrev pub invariant-loop-reference : goal.invariant-loop-reference
invariant-loop-reference l = l.holders ≡ released (take l.reference-index l.refs) l.fn.holders
