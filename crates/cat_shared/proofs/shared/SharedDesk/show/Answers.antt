use Rattle.std.proofs.Common.{◌≡◌, [], append-nil, refl, sym, ap, subst, ◌∙◌}
use Rattle.cat_desk.specs.Asks.{IsAnswer}
use Rattle.cat_desk.specs.Shown.{shown_text}
use Rattle.cat_desk.proofs.Shown.{shown_is}
use Rattle.cat_turns.specs.Law.{GrowsBeside}
use Rattle.cat_shared.specs.Replay.{replay}
use Rattle.cat_shared.specs.Shared.{pass_of}
use Rattle.cat_shared.proofs.shared.SharedDesk.show.Goals as goal

pub returns-in-Ok-clause-answer : goal.returns-in-Ok-clause-answer
returns-in-Ok-clause-answer g c =
    let a = c.in-Ok.ensures.acts in
    let before = a.0 in
    let state = (g.B.TimedDesk.ledger before.desk).state in
    let old = c.args.self.now.pass in
    let seen = a.4 ∙ a.3.1 in
    let w = c.write_shown.ensures.answer in
    let same = shown_is c.args.ask.now c.requires 0 state ∙ ap (shown_text c.args.ask.now) (sym a.3.0) in (
      w.0,
      w.1,
      record {
        same = c.in-Ok.ensures.same;
        state = state;
        finds = record {
          grown = subst (λ j. GrowsBeside pass_of old.number old.seen j) (sym seen) a.2;
          replayed = ap (replay g.L.Layers.rules g.N.Named.settings g.N.Named.opening) seen ∙ before.replayed;
        };
        now = 0;
        answer = subst (λ r. IsAnswer r c.write_shown.result w.0) (sym same) w.2;
      },
    )

pub returns-in-Err-clause-answer : goal.returns-in-Err-clause-answer
returns-in-Err-clause-answer g c =
    let a = c.in-Err.ensures.acts in
    let before = a.0 in
    let old = c.args.self.now.pass in
    let seen = a.4 ∙ a.3.1 in (
      [],
      sym (append-nil _),
      record {
        same = c.in-Err.ensures.same;
        state = (g.B.TimedDesk.ledger before.desk).state;
        finds = record {
          grown = subst (λ j. GrowsBeside pass_of old.number old.seen j) (sym seen) a.2;
          replayed = ap (replay g.L.Layers.rules g.N.Named.settings g.N.Named.opening) seen ∙ before.replayed;
        };
        now = 0;
        answer = refl;
      },
    )
