use Rattle.std.proofs.Common.{refl}
use Rattle.cat_connection.specs.Status.{usage_line}
use Rattle.cat_connection.proofs.Telling.{told}
use Rattle.cat_connection.proofs.command.usage.Goals as goal

pub returns : goal.returns
returns g c = record {
  status_is = refl;
  line = told c.write_all.result (g.O.Sink.written c.args.sink.now) (g.O.Sink.written c.write_all.new.sink) usage_line (g.O.Sink.faults c.args.sink.now) (g.O.Sink.faults c.write_all.new.sink) c.write_all.ensures.whole c.write_all.ensures.front c.write_all.ensures.cause;
  write_later = c.write_all.ensures.later;
}
