use Rattle.std.proofs.Common.{◌≡◌, ◌≤◌, ◌∙◌, ap, sym, refl, subst, inl, inr, rules, arith}
use Rattle.std.proofs.lemmas.Grind.{common_steps}
use Rattle.cat_open_errors.proofs.Shut.{shut}
use Rattle.cat_stored_session.proofs.Statuses.{of_end, of_shut}
use Rattle.std.proofs.Math.Logic.{∥∥₁_map}
use Rattle.std.specs.Prelude.{IfSome}
use Rattle.cat_keeper.specs.Answers.{Are}
use Rattle.cat_layers.specs.Layered.{layered}
use Rattle.cat_model.specs.Sound.{Sound}
use Rattle.cat_core.specs.declared.ledger.Ledger.{Ledger}
use Rattle.cat_row_updates.proofs.Reading.{told_opens}
use Rattle.cat_row_updates.specs.Told.{OpensAs}
use Rattle.cat_store.specs.Opened.{HasRule, IsRead}
use Rattle.cat_stored_rows.specs.Stored.{stored, texts_of}
use Rattle.cat_session_model.specs.Program.{program_settings}
use Rattle.cat_stored_session.proofs.stored.run_stored_connection.Goals as goal

pub returns-in-Ok : goal.returns-in-Ok
returns-in-Ok g c =
    let e = c.in-Ok.ensures in
    let s = c.service_of-service.result.desk in
    let is = c.service_of-service.ensures in
    let d = c.kept_connection-end.new.service.desk in
    let k = c.into_store-store.result in
    let state = sym (ap (λ l. l.state) is.catalogue) in
    record {
      ran = inr (record {
        first = record { wired = record { catalogue = s.catalogue; feed = s.feed }; place = s.store.place; refusals = s.refusals };
        last = record { wired = record { catalogue = d.catalogue; feed = d.feed }; place = d.store.place; refusals = d.refusals };
        opened = record {
          settings = ap (λ l. l.settings) is.catalogue ∙ sym (ap (λ l. program_settings l.settings.orphans) is.catalogue);
          feed_is = is.feed;
          place_is = is.place ∙ e.place;
          none_refused = is.refusals;
          rule_is = subst (λ o. IfSome c.args.orphans (λ r. o ≡ r)) (sym (ap (λ l. l.settings.orphans) is.catalogue)) e.rule;
          rule_kept = λ none. subst (λ (l : Ledger). IfSome (g.K.Keeper.tables c.args.place c.args.keeper) (λ rows. HasRule rows l.settings.orphans l.state)) (sym is.catalogue) (e.kept none);
          read = subst (λ m. IfSome (g.K.Keeper.tables c.args.place c.args.keeper) (λ rows. IsRead rows m)) state e.read;
          opens = subst (λ m. IfSome (g.K.Keeper.tables c.args.place c.args.keeper) (λ rows. OpensAs layered rows m)) state
              (told_opens layered c.in-Ok.opened.state.value e.opening.tells e.opening.tells_first e.opening.again (g.K.Keeper.tables c.args.place c.args.keeper) e.read);
          sound = subst (Sound layered) state e.opening.steady.sound;
        };
        ran = (c.kept_connection-end.result, c.from.ensures, c.kept_connection-end.ensures.outcome, c.kept_connection-end.ensures.transcript);
        kept = ∥∥₁_map c.into_store-store.ensures.followed
            (λ h. subst (λ p. Are (g.K.Keeper.tables p k.keeper) (texts_of (stored d.catalogue.settings.orphans d.catalogue.state)))
            (ap (λ x. x.place) c.into_store-store.ensures.store ∙ ap (λ x. x.store.place) c.into_desk.ensures)
            (subst (λ rows. Are (g.K.Keeper.tables k.place k.keeper) (texts_of rows)) (h.rows_are ∙ ap (λ x. stored x.catalogue.settings.orphans x.catalogue.state) c.into_desk.ensures) h.told_are));
        caused = subst (λ n. n ≤ g.K.Keeper.faults k.keeper) (ap (λ x. x.refusals) c.into_desk.ensures) c.into_store-store.ensures.faults;
      });
      causes = record {
        read_fault = first_of (search rules, grind (arith, common_steps));
        write_fault = first_of (search rules, grind (arith, common_steps));
        memory = first_of (search rules, grind (arith, common_steps));
        read_later = c.kept_connection-end.ensures.read_later;
        write_later = c.kept_connection-end.ensures.write_later;
      };
      statuses = of_end c.kept_connection-end.result c.from.result c.from.ensures;
    }

-- the store wasn't opened
pub returns-in-Err : goal.returns-in-Err
returns-in-Err g c =
    let at = c.args.place in
    let e = c.in-Err.ensures in
    let u = c.unopened-status.ensures in
    record {
      ran = inl (
        refl,
        shut g.O.Sink.written g.O.Sink.faults (g.K.Keeper.tables at) g.K.Keeper.faults c.unopened-status.result c.args.sink.now c.unopened-status.new.sink c.args.keeper c.in-Err.keeper u.ended u.unwritten e.same (λ is. e.cause (u.keeper is))
            (λ is. u.unopenable is (g.K.Keeper.tables at c.args.keeper) e.opens) (λ is. u.refused is (g.K.Keeper.tables at c.args.keeper) e.named),
      );
      causes = record {
        read_fault = first_of (search rules, grind (arith, common_steps));
        write_fault = first_of (search rules, grind (arith, common_steps));
        memory = first_of (search rules, grind (arith, common_steps));
        read_later = first_of (search rules, omega arith);
        write_later = u.later;
      };
      statuses = of_shut c.unopened-status.result u.ended;
    }
