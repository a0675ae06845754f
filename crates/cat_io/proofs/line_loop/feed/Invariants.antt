use Rattle.std.proofs.Common.{ℕ, List, ◌≤◌, length}
use Rattle.cat_io.specs.Session.{Feeding, IsKept}
use Rattle.cat_io.proofs.line_loop.feed.Given as goal

abbrev pub invariant-loop-front : goal.invariant-loop-front
invariant-loop-front g l = record {
  feeding : (begun : List ℕ) → IsKept l.fn.line begun → Feeding g.M.Machine.after g.M.Machine.reply (g.O.Sink.written l.fn.sink) (g.O.Sink.written l.sink) l.fn.machine l.machine begun l.line l.fn.piece l.rest;
  later : g.O.Sink.faults l.fn.sink ≤ g.O.Sink.faults l.sink;
}

abbrev pub decreases-loop-front : goal.decreases-loop-front
decreases-loop-front g l = length l.rest
