use Rattle.std.proofs.Common.{◌≤◌, ◌-◌, ◌^◌}
use Rattle.cat_connection.specs.Connection.{SoFar}
use Rattle.cat_connection.proofs.message_loop.answer_all.Given as goal

abbrev pub invariant-loop-taken : goal.invariant-loop-taken
invariant-loop-taken g l = record {
  so_far : SoFar g.M.Machine.answers g.M.Machine.lacks (g.S.Source.left l.fn.source) (g.S.Source.left l.source) (g.O.Sink.written l.fn.sink) (g.O.Sink.written l.sink) l.fn.machine l.machine l.window l.taken;
  bound : l.taken ≤ 2 ^ 40;
  read_later : g.S.Source.faults l.fn.source ≤ g.S.Source.faults l.source;
  write_later : g.O.Sink.faults l.fn.sink ≤ g.O.Sink.faults l.sink;
}

abbrev pub decreases-loop-taken : goal.decreases-loop-taken
decreases-loop-taken g l = 2 ^ 40 - l.taken
