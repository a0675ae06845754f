use Rattle.cat_layers.specs.Layered.{layered}
use Rattle.cat_in_memory.proofs.Ruled.{ran}
use Rattle.cat_in_memory.proofs.empty.run_session.Goals as goal

pub returns : goal.returns
returns g c =
    let e = c.answer_lines.ensures in
    let r = ran layered c.args.orphans c.answer_lines.result (g.S.Source.left c.args.source.now) (g.S.Source.left c.answer_lines.new.source)
    (g.O.Sink.written c.args.sink.now) (g.O.Sink.written c.answer_lines.new.sink) c.new-session.result c.answer_lines.new.machine c.new-session.ensures e.ran in
    record {
      end = r.0;
      ran = r.1;
      causes = record { read_fault = e.read_fault; write_fault = e.write_fault; memory = e.memory; read_later = e.read_later; write_later = e.write_later };
      statuses = e.ended;
    }
