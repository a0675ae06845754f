use Rattle.std.proofs.Common.{◌≡◌, ◌++◌, length}
use Rattle.cat_model.specs.Mend.{below}
use Rattle.cat_claims.proofs.cut.cut_off.Given as goal

-- what is left to be cut off
abbrev pub invariant-loop-left : goal.invariant-loop-left
invariant-loop-left l = l.cut.items ++ below l.left l.rows l.holders l.refs.items ≡ below (length l.fn.holders) l.fn.rows l.fn.holders l.fn.lost.items

abbrev pub decreases-loop-left : goal.decreases-loop-left
decreases-loop-left l = l.left
