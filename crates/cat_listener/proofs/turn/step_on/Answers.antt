use Rattle.cat_listener.proofs.Turns.{turn_then, turn_written}
use Rattle.cat_listener.proofs.turn.step_on.Goals as goal

pub returns : goal.returns
returns g c = record {
  turned = turn_then g.S.Server.answers _ _ _ _ _ _ _ _ _ _ _ _
      (turn_written g.S.Server.answers c.args.server.now _ _ (g.I.Source.left c.args.source.now) _ _ c.write_going.ensures.written) (c.go_on.ensures.turned (g.O.Sink.written c.write_going.new.sink));
}
