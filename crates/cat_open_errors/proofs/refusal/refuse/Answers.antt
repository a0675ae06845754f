use Rattle.std.proofs.Common.{◌⊎◌, ◌∙◌, subst}
use Rattle.std.specs.Io.KnownBytes.{Appends}
use Rattle.cat_io.specs.Causes.{Rose}
use Rattle.cat_io.specs.Sink.{AppendsFront}
use Rattle.cat_connection.proofs.Telling.{told}
use Rattle.cat_open_errors.proofs.refusal.refuse.Goals as goal

pub returns-in-Ok-clause-refused : goal.returns-in-Ok-clause-refused
returns-in-Ok-clause-refused g c = λ is.
    let before = g.O.Sink.written c.args.sink.now in
    let after = g.O.Sink.written c.write_all.new.sink in
    let faults = g.O.Sink.faults c.args.sink.now in
    let faults' = g.O.Sink.faults c.write_all.new.sink in
    subst (λ l. Appends before after l ⊎ (AppendsFront before after l × Rose faults faults')) (c.as_slice.ensures.value ∙ c.in-Ok.ensures)
    (told c.write_all.result before after c.as_slice.result.now faults faults' c.write_all.ensures.whole c.write_all.ensures.front c.write_all.ensures.cause)
