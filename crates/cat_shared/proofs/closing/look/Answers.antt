use Rattle.std.proofs.Common.{◌≡◌, List, subst, sym, ◌∙◌}
use Rattle.std.specs.Prelude.{Some}
use Rattle.cat_shared.specs.Replay.{replay}
use Rattle.cat_shared.specs.declared.entry.Entry.{Entry}
use Rattle.cat_shared.proofs.closing.look.Goals as goal

pub returns : goal.returns
returns g c =
    let a = c.at_turn.ensures.acts in
    let state = (g.B.TimedDesk.ledger a.1.desk).state in (
      state,
      record {
        begins = (a.2.0, a.2.1 ∙ (sym a.3 ∙ sym a.4));
        replayed = subst (λ (entries : List Entry). replay g.L.Layers.rules g.N.Named.settings g.N.Named.opening entries ≡ Some state) (sym a.4) a.1.replayed;
      },
    )
