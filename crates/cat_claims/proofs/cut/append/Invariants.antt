use Rattle.std.proofs.Common.{◌≡◌, ◌++◌}
use Rattle.cat_claims.proofs.cut.append.Given as goal

abbrev pub invariant-loop-reference : goal.invariant-loop-reference
invariant-loop-reference l = l.cut.items ≡ l.fn.cut.items ++ l.yielded
