use Rattle.std.proofs.Common.{◌≡◌}
use Rattle.cat_api.specs.Wire.{Wired}
use Rattle.cat_layers.specs.Layered.{layered}
use Rattle.cat_in_memory.specs.Wires.{wire_start}
use Rattle.cat_in_memory.proofs.Served.{served}
use Rattle.cat_in_memory.proofs.empty.run_connection.Goals as goal

pub returns : goal.returns
returns g c =
    let s = c.empty_service-service.result in
    let is = c.empty_service-service.ensures in
    let e = c.answer_messages.ensures in
    let now : Wired = record { catalogue = s.desk.timed.catalogue; feed = s.desk.feed } in
    let first : now ≡ wire_start c.args.orphans = λ i. record { catalogue = is.catalogue i; feed = is.feed i } in
    let r = served s c.answer_messages.new.machine (λ a. a.desk) (λ a. a.timed) (λ t. t.catalogue) (λ t. t.clock.moment) (λ t. t.clock.readings) (λ a. a.feed) layered c.answer_messages.result
    (g.S.Source.left c.args.source.now) (g.S.Source.left c.answer_messages.new.source) (g.O.Sink.written c.args.sink.now) (g.O.Sink.written c.answer_messages.new.sink)
    (wire_start c.args.orphans) is.moment first e.served in
    record {
      end = r.0;
      served = r.1;
      causes = record { read_fault = e.read_fault; write_fault = e.write_fault; memory = e.memory; read_later = e.read_later; write_later = e.write_later };
      statuses = e.ended;
    }
