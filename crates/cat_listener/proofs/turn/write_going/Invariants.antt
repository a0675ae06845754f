use Rattle.std.proofs.Common.{length}
use Rattle.cat_listener.specs.Turn.{IsWritten}
use Rattle.cat_listener.proofs.turn.write_going.Given as goal

abbrev pub invariant-loop-sink : goal.invariant-loop-sink
invariant-loop-sink g l = IsWritten l.fn.buffers l.buffers (g.O.Sink.written l.fn.sink) (g.O.Sink.written l.sink)

abbrev pub decreases-loop-sink : goal.decreases-loop-sink
decreases-loop-sink g l = length l.buffers.going
