use Rattle.std.proofs.Common.{refl, subst, inl, inr, rules, arith}
use Rattle.std.proofs.lemmas.Grind.{common_steps}
use Rattle.cat_open_errors.proofs.Shut.{shut}
use Rattle.cat_stored_session.proofs.Statuses.{of_run, of_shut}
use Rattle.cat_stored_session.specs.Kept.{kept_after, kept_reply}
use Rattle.cat_layers.specs.Layered.{layered}
use Rattle.cat_connection.specs.Status.{HasRun}
use Rattle.cat_row_updates.proofs.Reading.{told_opens}
use Rattle.cat_stored_session.specs.Stores.{session_over}
use Rattle.cat_stored_session.proofs.stored.run_stored.Goals as goal

pub returns-in-Ok : goal.returns-in-Ok
returns-in-Ok g c =
    let o = c.in-Ok.opened in
    let e = c.in-Ok.ensures in
    let last = c.answer_lines-status.new.machine in
    let a = c.answer_lines-status.ensures in
    record {
      ran = inr (record {
        first = record { ruled = record { orphans = o.store.orphans; session = session_over o.state.value }; place = o.store.place; refusals = 0 };
        last = last;
        opened = record { begun = refl; place_is = e.place; none_refused = refl; rule_is = e.rule; rule_kept = e.kept; read = e.read; opens = told_opens layered o.state.value e.opening.tells e.opening.tells_first e.opening.again (g.K.Keeper.tables c.args.place c.args.keeper) e.read; sound = e.opening.steady.sound };
        ran = subst (λ m. HasRun (kept_after layered) (kept_reply layered) c.answer_lines-status.result (g.S.Source.left c.args.source.now) (g.S.Source.left c.answer_lines-status.new.source) (g.O.Sink.written c.args.sink.now) (g.O.Sink.written c.answer_lines-status.new.sink) m last)
            c.session_of-session.ensures c.answer_lines-status.ensures.ran;
        kept = c.into_keeper-keeper.ensures.told;
        caused = c.into_keeper-keeper.ensures.faults;
      });
      causes = record { read_fault = a.read_fault; write_fault = a.write_fault; memory = a.memory; read_later = a.read_later; write_later = a.write_later };
      statuses = of_run c.answer_lines-status.result a.ended;
    }

-- the store wasn't opened
pub returns-in-Err : goal.returns-in-Err
returns-in-Err g c =
    let at = c.args.place in
    let e = c.in-Err.ensures in
    let u = c.unopened-status.ensures in
    record {
      ran = inl (
        refl,
        shut g.O.Sink.written g.O.Sink.faults (g.K.Keeper.tables at) g.K.Keeper.faults c.unopened-status.result c.args.sink.now c.unopened-status.new.sink c.args.keeper c.in-Err.keeper u.ended u.unwritten e.same (λ is. e.cause (u.keeper is))
            (λ is. u.unopenable is (g.K.Keeper.tables at c.args.keeper) e.opens) (λ is. u.refused is (g.K.Keeper.tables at c.args.keeper) e.named),
      );
      causes = record {
        read_fault = first_of (search rules, grind (arith, common_steps));
        write_fault = first_of (search rules, grind (arith, common_steps));
        memory = first_of (search rules, grind (arith, common_steps));
        read_later = first_of (search rules, omega arith);
        write_later = u.later;
      };
      statuses = of_shut c.unopened-status.result u.ended;
    }
