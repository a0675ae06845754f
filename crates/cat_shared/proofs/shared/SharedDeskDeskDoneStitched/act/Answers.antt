use Rattle.cat_desk.specs.Deed.{deed_of}
use Rattle.cat_shared.proofs.Sharing.{shared_done}
use Rattle.cat_shared.proofs.shared.SharedDeskDeskDoneStitched.act.Goals as goal

pub returns : goal.returns
returns g c =
    let a = c.at_turn.ensures.acts in
    let before = a.0 in
    let after = a.1 in
    record {
      acts = record {
        same = c.at_turn.ensures.same;
        journal = before.journal.all.items;
        state = (g.B.TimedDesk.ledger before.desk).state;
        finds = record { grown = a.2; replayed = before.replayed };
        done = shared_done g.L.Layers.rules g.N.Named.settings g.N.Named.opening c.args.self.now.pass.number c.number.result (g.B.TimedDesk.moment after.desk) (deed_of c.args.command)
            (g.B.TimedDesk.ledger before.desk) (g.B.TimedDesk.ledger after.desk) before.desk after.desk before.journal.all.items after.journal.all.items c.at_turn.new.pass.seen c.at_turn.result
            c.number.ensures before.settings after.settings a.4 after.replayed a.3;
      };
    }
