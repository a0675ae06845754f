use Rattle.std.proofs.Common.{◌≤◌, ◌-◌, length, drop}
use Rattle.cat_connection.specs.Connection.{Feeding}
use Rattle.cat_connection.proofs.message_loop.feed.Given as goal

abbrev pub invariant-loop-used : goal.invariant-loop-used
invariant-loop-used g l = record {
  inside : l.at ≤ length l.fn.bytes;
  feeding : Feeding g.M.Machine.answers g.M.Machine.lacks (g.O.Sink.written l.fn.sink) (g.O.Sink.written l.sink) l.fn.machine l.machine l.fn.bytes (drop l.at l.fn.bytes);
  later : g.O.Sink.faults l.fn.sink ≤ g.O.Sink.faults l.sink;
}

abbrev pub decreases-loop-used : goal.decreases-loop-used
decreases-loop-used g l = length l.fn.bytes - l.at
