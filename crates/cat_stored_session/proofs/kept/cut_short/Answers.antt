use Rattle.std.proofs.Common.{◌≡◌, true, subst}
use Rattle.std.specs.FinMap.Entries.{is_sorted}
use Rattle.cat_collections.specs.Table.{text_cmp}
use Rattle.cat_stored_session.proofs.Lines.{cut_rows, first_stands}
use Rattle.cat_stored_session.proofs.kept.cut_short.Goals as goal

pub returns-clause-cut : goal.returns-clause-cut
returns-clause-cut g c =
    let did = c.settle_within-events in
    first_stands g.L.Layers.rules c.args.session.now did.new.self did.result c.cut_line.result.items did.ensures.most c.if-events-eq0.false did.ensures.state did.ensures.events c.cut_line.ensures

pub returns-clause-rows : goal.returns-clause-rows
returns-clause-rows g c =
    let did = c.settle_within-events in
    cut_rows g.L.Layers.rules c.args.session.now did.new.self did.result did.ensures.most did.ensures.state (subst (λ m. is_sorted text_cmp m.records ≡ true) c.view-state.ensures.state c.view-state.ensures.records)
