use Rattle.std.proofs.Common.{subst, take}
use Rattle.std.specs.Io.KnownBytes.{Appends}
use Rattle.cat_io.specs.Sink.{Writes}
use Rattle.cat_listener.proofs.Turns.{written_more, written_none}
use Rattle.cat_listener.proofs.turn.write_going.Goals as goal

pub loop-sink-init : goal.loop-sink-init
loop-sink-init g c = written_none _ _

pub loop-sink-preserved : goal.loop-sink-preserved
loop-sink-preserved g c =
    let before = g.O.Sink.written c.loop-sink.sink in
    let after = g.O.Sink.written c.write_now.new.self in
    let wrote = subst (λ answer. Writes before after answer c.going-in-loop-sink.result.now) c.in-Some-Wrote.field-0-is c.in-Some-Wrote.ensures.bytes in
    let writes = subst (λ l. Appends before after (take c.in-Some-Wrote.count l)) c.going-in-loop-sink.ensures wrote.2 in
    written_more _ _ _ _ _ _ c.in-Some-Wrote.count c.loop-sink.invariant writes c.take_going.ensures
