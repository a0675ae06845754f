use Rattle.std.proofs.Common.{◌≡◌, ◌++◌}
use Rattle.cat_affected.proofs.refs.append.Given as goal

abbrev pub invariant-loop-reference : goal.invariant-loop-reference
invariant-loop-reference l = l.refs.items ≡ l.fn.refs.items ++ l.yielded
