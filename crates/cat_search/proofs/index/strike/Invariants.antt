use Rattle.std.proofs.Common.{length}
use Rattle.cat_search.specs.Index.{Lists, AreStruck}
use Rattle.cat_search.proofs.index.strike.Given as goal

-- once the postings that are left are struck too, all are
abbrev pub invariant-loop-left : goal.invariant-loop-left
invariant-loop-left l = (new : Lists) → AreStruck l.left l.lists new → AreStruck l.postings l.fn.lists new

abbrev pub decreases-loop-left : goal.decreases-loop-left
decreases-loop-left l = length l.left
