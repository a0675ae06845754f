use Rattle.std.proofs.Common.{◌≡◌, cond, ap, sym, ◌∙◌, is_some}
use Rattle.cat_collections.proofs.Tables.{none_or_some, or_false_first}
use Rattle.cat_model.specs.Settle.{counted, due_refs, is_empty, is_ended, try_turns}
use Rattle.cat_settle.proofs.Parts.{came_same, counted_goes}
use Rattle.cat_settle.proofs.rounds.one_round.Goals as goal

pub returns-clause-came : goal.returns-clause-came
returns-clause-came g c =
    let p = c.args.p.now in
    let refs : c.as_slice.result.now ≡ due_refs c.args.now p.state = c.as_slice.ensures ∙ c.requires.due in
    let k : c.counted-p.result ≡ cond (is_ended c.args.now p) p.rounds (counted p.rounds) = c.counted-p.ensures ∙ sym (ap (λ b. cond b p.rounds (counted p.rounds)) c.requires.going) in
    came_same c.all_turned.result _ _ (λ limit j. try_turns g.L.Layers.rules c.args.settings.now c.args.now limit (refs j) (record p { rounds = k j })) c.all_turned.new.p c.all_turned.ensures.came

pub returns-clause-goes : goal.returns-clause-goes
returns-clause-goes g c =
    let p = c.args.p.now in
    counted_goes g.L.Layers.rules p c.all_turned.new.p c.counted-p.result
    (none_or_some p.stop (or_false_first (is_some p.stop) (is_empty (due_refs c.args.now p.state)) c.requires.going)) c.all_turned.ensures.goes
