use Rattle.std.proofs.Common.{◌<◌, length}
use Rattle.cat_search.proofs.sets.smallest.Given as goal

abbrev pub invariant-loop-place : goal.invariant-loop-place
invariant-loop-place l = l.best < length l.sets
