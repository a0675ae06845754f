use Rattle.std.proofs.Common.{◌≡◌, false, sym, ◌∙◌}
use Rattle.cat_model.specs.Settle.{is_ended}
use Rattle.cat_settle.proofs.Gathering.{gathers_on}
use Rattle.cat_settle.proofs.Moves.{left_falls, round_cut, round_done, still_going}
use Rattle.cat_settle.proofs.Parts.{goes_on}
use Rattle.cat_settle.proofs.rounds.all_rounds.Goals as goal

pub returns-in-Err-one_round-clause-came : goal.returns-in-Err-one_round-clause-came
returns-in-Err-one_round-clause-came g c =
    let p = c.rounds.p in
    let going : is_ended c.args.now p ≡ false = still_going c.args.now p c.in-Ok.refs (sym c.is_some.ensures ∙ c.if-is_some.false) c.in-Ok.ensures (λ e. c.if-len-eq0.false (c.len.ensures ∙ e)) in
    round_cut g.L.Layers.rules c.args.settings.now c.args.now c.args.p.now p c.rounds.invariant.have going c.one_round.new.p c.one_round.ensures.goes c.in-Err-one_round.ensures.came

pub rounds-smaller : goal.rounds-smaller
rounds-smaller g c =
    let p = c.rounds.p in
    let going : is_ended c.args.now p ≡ false = still_going c.args.now p c.in-Ok.refs (sym c.is_some.ensures ∙ c.if-is_some.false) c.in-Ok.ensures (λ e. c.if-len-eq0.false (c.len.ensures ∙ e)) in
    left_falls g.L.Layers.rules c.args.settings.now c.args.now p c.one_round.new.p going (sym c.in-Ok-one_round.ensures.came.whole) c.rounds.invariant.steady.small.token

pub rounds-preserved : goal.rounds-preserved
rounds-preserved g c =
    let p = c.rounds.p in
    let going : is_ended c.args.now p ≡ false = still_going c.args.now p c.in-Ok.refs (sym c.is_some.ensures ∙ c.if-is_some.false) c.in-Ok.ensures (λ e. c.if-len-eq0.false (c.len.ensures ∙ e)) in
    record {
      have = round_done g.L.Layers.rules c.args.settings.now c.args.now c.args.p.now p c.rounds.invariant.have going c.one_round.new.p c.one_round.ensures.goes c.in-Ok-one_round.ensures.came;
      goes = goes_on g.L.Layers.rules c.args.p.now p c.one_round.new.p c.rounds.invariant.goes c.one_round.ensures.goes;
      within = λ h. c.one_round.ensures.within (c.rounds.invariant.within h);
      gathers = gathers_on c.args.reached.now c.rounds.reached c.one_round.new.reached c.args.p.now.state p.state c.one_round.new.p.state c.rounds.invariant.gathers c.one_round.ensures.gathers;
      steady = c.one_round.ensures.steady;
    }

pub returns-in-Err-one_round-clause-gathers : goal.returns-in-Err-one_round-clause-gathers
returns-in-Err-one_round-clause-gathers g c =
    gathers_on c.args.reached.now c.rounds.reached c.one_round.new.reached c.args.p.now.state c.rounds.p.state c.one_round.new.p.state c.rounds.invariant.gathers c.one_round.ensures.gathers
