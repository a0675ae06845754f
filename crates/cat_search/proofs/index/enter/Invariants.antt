use Rattle.std.proofs.Common.{length}
use Rattle.cat_search.specs.Index.{Lists, AreEntered}
use Rattle.cat_search.proofs.index.enter.Given as goal

-- once the postings that are left are entered too, all are
abbrev pub invariant-loop-left : goal.invariant-loop-left
invariant-loop-left l = (new : Lists) → AreEntered l.left l.lists new → AreEntered l.postings l.fn.lists new

abbrev pub decreases-loop-left : goal.decreases-loop-left
decreases-loop-left l = length l.left
