use Rattle.std.proofs.Common.{◌≡◌, take}
use Rattle.cat_model.specs.Mend.{gone}
use Rattle.cat_affected.proofs.reached.gone_among.Given as goal

abbrev pub invariant-loop-reference : goal.invariant-loop-reference
invariant-loop-reference l = l.free.items ≡ gone (take l.reference-index l.refs) l.holders
