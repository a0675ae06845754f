use Rattle.cat_listener.specs.Turn.{IsTurn, turn}
use Rattle.cat_listener.proofs.turn.take_turn.Given as goal

abbrev pub invariant-loop : goal.invariant-loop
invariant-loop g l =
    IsTurn g.S.Server.answers l.fn.server
    (turn l.fn.buffers (g.I.Source.left l.fn.source) (g.O.Sink.written l.fn.sink) l.buffers (g.I.Source.left l.source) (g.O.Sink.written l.sink)) l.server
