use Rattle.std.proofs.Common.{◌≡◌, drop}
use Rattle.cat_access.specs.Tokens as spec
use Rattle.cat_access.proofs.token.right_by.Given as goal

abbrev pub invariant-loop-token : goal.invariant-loop-token
invariant-loop-token l = spec.right_by l.tokens l.digest ≡ spec.right_by (drop l.token-index l.tokens) l.digest
