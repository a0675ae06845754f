use Rattle.std.proofs.Common.{◌≡◌, ◌≤◌, ◌++◌, List, ℕ, length}
use Rattle.cat_mirror.proofs.Followed.{Fed}
use Rattle.cat_mirror.proofs.lines.Following.feed.Given as goal

abbrev pub invariant-loop-front : goal.invariant-loop-front
invariant-loop-front g l = record {
  fed : (done : List ℕ) × (l.fn.piece ≡ done ++ l.rest) × Fed (g.O.Sink.written l.fn.sink) (g.O.Sink.written l.sink) l.fn.self l.self done;
  later : g.O.Sink.faults l.fn.sink ≤ g.O.Sink.faults l.sink;
}

abbrev pub decreases-loop-front : goal.decreases-loop-front
decreases-loop-front g l = length l.rest
