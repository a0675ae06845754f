use Rattle.std.proofs.Common.{◌≡◌, true≢false, refl, sym, ap, subst, ◌∙◌, inl}
use Rattle.std.proofs.Math.Logic.{∥∥₁_elim}
use Rattle.std.specs.Coded.{Coded, Coded-set, coded_list, coded×, coded_ℕ}
use Rattle.cat_core.specs.declared.ledger.Ledger.{Ledger}
use Rattle.cat_desk.specs.Acts.{Acts}
use Rattle.cat_desk.specs.Deed.{deed_of}
use Rattle.cat_keeper.specs.declared.keeper.Committed.TheVariants.{Kept, Failed, NoMemory}
use Rattle.cat_io.specs.Word.{memory}
use Rattle.cat_keeper.specs.contracts.table.Table.{the_row as table_row}
use Rattle.cat_row_format.specs.contracts.row.StoredRow.{the_row as stored_row}
use Rattle.cat_stored_rows.specs.Stored.{Stored, stored}
use Rattle.cat_stored_desk.specs.Followed.{IsFollowed}
use Rattle.cat_desk.specs.Spare.{IsSpare}
use Rattle.cat_desk.proofs.Again.{acts_from}
use Rattle.cat_desk.proofs.Answered.{acts_kept}
use Rattle.cat_stored_desk.proofs.Deeds.{needs_some}
use Rattle.cat_stored_desk.proofs.Lost.{kept_counts, kept_from}
use Rattle.cat_desk.specs.Kept.{leaves_rows}
use Rattle.cat_stored_desk.proofs.Followed.{followed}
use Rattle.cat_stored_desk.proofs.Beyond.{command_reaches}
use Rattle.cat_stored_desk.proofs.desk.follow.Goals as goal

abbrev coded_stored : Coded Stored
coded_stored = coded_list (coded× (coded× table_row.coded (coded_list coded_ℕ)) stored_row.coded)

pub keep-requires-clause-rows : goal.keep-requires-clause-rows
keep-requires-clause-rows g c =
    ∥∥₁_elim c.requires.followed (Coded-set coded_stored _ _) (λ f. f.rows_are ∙ (λ i. stored (sym f.rule_is i) (sym c.in-Ok.ensures.saved i)))

pub keep-requires-clause-beyond : goal.keep-requires-clause-beyond
keep-requires-clause-beyond g c =
    let catalogue = c.args.catalogue.now in
    let reaching = c.act_reaching-reply in
    command_reaches g.L.Layers.rules c.args.now (deed_of c.args.command.now) catalogue reaching.new.catalogue reaching.result.0 reaching.result.1 _ _ reaching.ensures.acts c.state-before.ensures.sound reaching.ensures.reaches c.in-Ok.ensures.saved c.sound_state.ensures.state

pub returns-in-Kept-clause-followed : goal.returns-in-Kept-clause-followed
returns-in-Kept-clause-followed g c =
    let same = ap (λ s. s.orphans) (sym c.act_reaching-reply.ensures.acts.settings) in
    subst (λ (l : Ledger). ∥ IsFollowed (g.K.Keeper.tables c.keep.new.store.place c.keep.new.store.keeper) c.keep.new.store.orphans c.keep.new.store.rows l.settings.orphans l.state ∥₁) (sym c.brought_up.ensures.catalogue)
    (followed _ _ _ _ _ _ _ _ _ _ c.keep.ensures.orphans same c.keep.ensures.told
    (λ rule rows. c.keep.ensures.rows c.in-Kept.is ∙ (λ i. stored ((rule ∙ same) i) (c.sound_state.ensures.state i))) c.requires.followed)

pub returns-in-Kept-clause-acts : goal.returns-in-Kept-clause-acts
returns-in-Kept-clause-acts g c =
    inl (subst (λ (l : Ledger). Acts g.L.Layers.rules c.args.now (deed_of c.args.command.now) c.args.catalogue.now l c.act_reaching-reply.result.0) (sym c.brought_up.ensures.catalogue) c.act_reaching-reply.ensures.acts, refl)

pub brought_up-requires-clause-acts : goal.brought_up-requires-clause-acts
brought_up-requires-clause-acts g c =
    acts_from g.L.Layers.rules c.args.now (deed_of c.args.command.now) c.args.catalogue.now c.act_reaching-reply.new.catalogue c.act_reaching-reply.result.0 c.in-Ok.saved c.act_reaching-reply.ensures.acts c.in-Ok.ensures.saved

pub returns-in-Kept-clause-spared : goal.returns-in-Kept-clause-spared
returns-in-Kept-clause-spared g c = subst (λ (l : Ledger). IsSpare c.brought_up.result l.state) (sym c.brought_up.ensures.catalogue) c.brought_up.ensures.spare

pub returns-in-Failed-clause-acts : goal.returns-in-Failed-clause-acts
returns-in-Failed-clause-acts g c =
    let settings = c.put_back.ensures.settings ∙ c.act_reaching-reply.ensures.acts.settings in
    let state = c.put_back.ensures.state ∙ c.in-Ok.ensures.saved in
    kept_from g.L.Layers.rules c.args.now (deed_of c.args.command.now) c.args.catalogue.now c.put_back.new.self c.unkept.new.catalogue c.args.refusals.now c.unkept.new.refusals c.unkept.result settings state c.unkept.ensures.acts

pub returns-in-Failed-clause-counts : goal.returns-in-Failed-clause-counts
returns-in-Failed-clause-counts g c =
    kept_counts g.L.Layers.rules c.args.now (deed_of c.args.command.now) c.put_back.new.self c.unkept.new.catalogue c.args.refusals.now c.unkept.new.refusals
    (g.K.Keeper.faults c.args.store.now.keeper) (g.K.Keeper.faults c.keep.new.store.keeper) c.unkept.result c.unkept.ensures.acts c.keep.ensures.later (c.keep.ensures.cause c.in-Failed.is)

pub unkept-requires-clause-changes : goal.unkept-requires-clause-changes
unkept-requires-clause-changes g c = ap (leaves_rows (deed_of c.args.command.now)) (c.put_back.ensures.state ∙ c.in-Ok.ensures.saved) ∙ c.requires.changes

pub returns-in-Failed-clause-followed : goal.returns-in-Failed-clause-followed
returns-in-Failed-clause-followed g c =
    let settings = c.put_back.ensures.settings ∙ c.act_reaching-reply.ensures.acts.settings in
    let state = c.put_back.ensures.state ∙ c.in-Ok.ensures.saved in
    let back = ap (λ s. s.orphans) (sym settings) in
    let after = ap (λ s. s.orphans) (sym c.unkept.ensures.settings) in
    followed _ _ _ _ _ _ _ _ _ _ c.keep.ensures.orphans (back ∙ after) c.keep.ensures.told
    (λ rule rows. c.keep.ensures.same (λ k. (let no : Failed ≡ Kept = sym c.in-Failed.is ∙ k in cc))
    ∙ (rows ∙ ((λ i. stored (back i) (sym state i)) ∙ (sym c.unkept.ensures.rows ∙ ap (λ o. stored o c.unkept.new.catalogue.state) after)))) c.requires.followed

pub returns-in-NoMemory-clause-acts : goal.returns-in-NoMemory-clause-acts
returns-in-NoMemory-clause-acts g c = inl (
  record {
    word = memory;
    state = c.put_back-in-NoMemory.ensures.state ∙ c.in-Ok.ensures.saved;
    settings = c.put_back-in-NoMemory.ensures.settings ∙ c.act_reaching-reply.ensures.acts.settings;
    answer = refl;
    spare = λ none. absurd (needs_some (deed_of c.args.command.now) c.args.catalogue.now.state c.requires.changes none);
    exact = tt;
  },
  refl,
)

pub returns-in-NoMemory-clause-followed : goal.returns-in-NoMemory-clause-followed
returns-in-NoMemory-clause-followed g c =
    let settings = c.put_back-in-NoMemory.ensures.settings ∙ c.act_reaching-reply.ensures.acts.settings in
    let state = c.put_back-in-NoMemory.ensures.state ∙ c.in-Ok.ensures.saved in
    let same = ap (λ s. s.orphans) (sym settings) in
    followed _ _ _ _ _ _ _ _ _ _ c.keep.ensures.orphans same c.keep.ensures.told
    (λ rule rows. c.keep.ensures.same (λ k. (let no : NoMemory ≡ Kept = sym c.in-NoMemory.is ∙ k in cc)) ∙ (rows ∙ (λ i. stored (same i) (sym state i)))) c.requires.followed

pub returns-in-Kept-clause-cause : goal.returns-in-Kept-clause-cause
returns-in-Kept-clause-cause g c = λ is. absurd (true≢false (sym is ∙ acts_kept g.L.Layers.rules c.args.now (deed_of c.args.command.now) c.args.catalogue.now c.act_reaching-reply.new.catalogue c.act_reaching-reply.result.0 c.act_reaching-reply.ensures.acts))
