use Rattle.std.proofs.Common.{◌≡◌, true, sym, ap, subst, ◌∙◌}
use Rattle.std.specs.FinMap.Entries.{is_sorted}
use Rattle.cat_collections.specs.Table.{text_cmp}
use Rattle.cat_core.specs.declared.ledger.Ledger.{Ledger}
use Rattle.cat_desk.specs.Acts.{Acts}
use Rattle.cat_desk.specs.Deed.{deed_of}
use Rattle.cat_stored_rows.specs.Stored.{stored}
use Rattle.cat_desk.specs.Spare.{IsSpare}
use Rattle.cat_desk.proofs.Again.{acts_from}
use Rattle.cat_desk.proofs.Answered.{acts_kept}
use Rattle.cat_stored_desk.proofs.Deeds.{deed_still}
use Rattle.cat_stored_desk.proofs.desk.pass.Goals as goal

pub bring_up-requires-clause-acts : goal.bring_up-requires-clause-acts
bring_up-requires-clause-acts g c saved is =
    acts_from g.L.Layers.rules c.args.now (deed_of c.args.command.now) c.args.catalogue.now c.act-reply.new.catalogue c.act-reply.result saved c.act-reply.ensures (c.requires.spared saved is)

pub returns-clause-acts : goal.returns-clause-acts
returns-clause-acts g c =
    subst (λ (l : Ledger). Acts g.L.Layers.rules c.args.now (deed_of c.args.command.now) c.args.catalogue.now l c.act-reply.result) (sym c.bring_up.ensures.catalogue) c.act-reply.ensures

pub returns-clause-rows : goal.returns-clause-rows
returns-clause-rows g c =
    let old = c.args.catalogue.now in
    let acts = c.act-reply.ensures in
    ap (λ (l : Ledger). stored old.settings.orphans l.state) c.bring_up.ensures.catalogue
    ∙ (ap (stored old.settings.orphans) acts.state ∙ deed_still g.L.Layers.rules old.settings old.settings.orphans c.args.now old.state (subst (λ m. is_sorted text_cmp m.records ≡ true) c.view-state.ensures.state c.view-state.ensures.records) acts.word (deed_of c.args.command.now) c.requires.leaves)

pub returns-clause-never : goal.returns-clause-never
returns-clause-never g c = acts_kept g.L.Layers.rules c.args.now (deed_of c.args.command.now) c.args.catalogue.now c.act-reply.new.catalogue c.act-reply.result c.act-reply.ensures

pub returns-clause-spared : goal.returns-clause-spared
returns-clause-spared g c = subst (λ (l : Ledger). IsSpare c.bring_up.new.spare l.state) (sym c.bring_up.ensures.catalogue) c.bring_up.ensures.spare
