use Rattle.std.proofs.Common.{◌≡◌, true, refl, ap, subst, ◌∙◌, inl, inr}
use Rattle.std.specs.FinMap.Entries.{is_sorted}
use Rattle.cat_collections.specs.Table.{text_cmp}
use Rattle.cat_stored_rows.specs.Stored.{stored}
use Rattle.cat_store.proofs.Begun.{first_still}
use Rattle.cat_stored_desk.proofs.Lost.{none_acts, one_cut}
use Rattle.cat_stored_desk.proofs.desk.cut_short.Goals as goal

pub returns-then-events-eq0-clause-acts : goal.returns-then-events-eq0-clause-acts
returns-then-events-eq0-clause-acts g c =
    let within = c.settle_within-events.ensures in
    inl (none_acts g.L.Layers.rules c.args.now c.args.catalogue.now c.settle_within-events.new.self c.settle_within-events.result within.settings within.none c.if-events-eq0.true, refl)

pub returns-then-events-eq0-clause-rows : goal.returns-then-events-eq0-clause-rows
returns-then-events-eq0-clause-rows g c = ap (stored c.args.catalogue.now.settings.orphans) (c.settle_within-events.ensures.none c.if-events-eq0.true)

pub returns-else-events-eq0-clause-acts : goal.returns-else-events-eq0-clause-acts
returns-else-events-eq0-clause-acts g c =
    let within = c.settle_within-events.ensures in
    inr (inr (one_cut g.L.Layers.rules c.args.now c.args.catalogue.now c.settle_within-events.new.self c.settle_within-events.result within.settings within.most c.if-events-eq0.false within.state within.events), c.saturating_add.ensures)

pub returns-else-events-eq0-clause-rows : goal.returns-else-events-eq0-clause-rows
returns-else-events-eq0-clause-rows g c =
    let old = c.args.catalogue.now in
    let within = c.settle_within-events.ensures in
    ap (stored old.settings.orphans) within.state
    ∙ first_still g.L.Layers.rules old.settings old.settings.orphans c.args.now c.settle_within-events.result within.most old.state (subst (λ m. is_sorted text_cmp m.records ≡ true) c.view-state.ensures.state c.view-state.ensures.records)
