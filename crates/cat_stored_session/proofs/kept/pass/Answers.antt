use Rattle.std.proofs.Common.{◌≡◌, true, ap, subst, ◌∙◌}
use Rattle.std.specs.FinMap.Entries.{is_sorted}
use Rattle.cat_collections.specs.Table.{text_cmp}
use Rattle.cat_stored_rows.specs.Stored.{stored}
use Rattle.cat_session_model.specs.declared.state.RuledSession.{RuledSession}
use Rattle.cat_stored_session.proofs.Lines.{passed}
use Rattle.cat_stored_session.proofs.kept.pass.Goals as goal

pub returns-clause-rows : goal.returns-clause-rows
returns-clause-rows g c =
    let old = c.args.session.now in
    passed g.L.Layers.rules old.orphans c.args.line old c.carry_reaching.new.self c.carry_reaching.result (λ x. x.text.items) c.carry_reaching.ensures.ok c.carry_reaching.ensures.err c.requires.stays
    (subst (λ m. is_sorted text_cmp m.records ≡ true) c.view-state.ensures.state c.view-state.ensures.records)

pub returns-in-Ok-clause-rows : goal.returns-in-Ok-clause-rows
returns-in-Ok-clause-rows g c =
    let old = c.args.session.now in
    ap (λ (n : RuledSession). stored old.orphans n.session.state) c.after_line.ensures.session
    ∙ passed g.L.Layers.rules old.orphans c.args.line old c.carry_reaching.new.self c.carry_reaching.result (λ x. x.text.items) c.carry_reaching.ensures.ok c.carry_reaching.ensures.err c.requires.stays
    (subst (λ m. is_sorted text_cmp m.records ≡ true) c.view-state.ensures.state c.view-state.ensures.records)
