use Rattle.std.proofs.Common.{map, string_bytes}
use Rattle.cat_command_line.specs.Words.{command_of}
use Rattle.cat_tool.proofs.Complete.{complete}
use Rattle.cat_tool.proofs.top.run.Goals as goal

pub returns-clause-complete : goal.returns-clause-complete
returns-clause-complete g c = λ some none.
    let ran = c.run_words in
    complete g.S.Source.left g.S.Source.faults g.O.Sink.written g.O.Sink.faults g.D.Doors.closed g.D.Doors.faults g.K.Keeper.tables g.K.Keeper.faults ran.result.status c.args.source.now ran.new.source c.args.sink.now ran.new.sink
    c.args.doors.now ran.new.doors c.args.keeper ran.result.keeper none (command_of (map string_bytes c.args.words.now)) some ran.ensures
