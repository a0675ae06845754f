use Rattle.std.proofs.Common.{ap, sym, ◌∙◌}
use Rattle.std.specs.FinMap.Entries.{is_sorted}
use Rattle.cat_collections.specs.Table.{keys, text_cmp}
use Rattle.cat_search.specs.Index.{corrected, found}
use Rattle.cat_search.proofs.Finds.{all_found, found_keys}
use Rattle.cat_search.proofs.index.find.Goals as goal

pub returns-then-accepts_all : goal.returns-then-accepts_all
returns-then-accepts_all c =
    c.into_vec.ensures
    ∙ c.in_ok-keys.ensures
    ∙ all_found c.parts-parts.result.documents.now c.args.filters.now (sym c.accepts_all.ensures ∙ c.if-accepts_all.true)
    ∙ ap (found c.args.filters.now) c.parts-parts.ensures.documents

pub returns : goal.returns
returns c =
    let parts = c.parts-parts.result in
    let found_is = c.in_ok-found.ensures ∙ ap (corrected c.args.filters.now parts.documents.now parts.pending.now) c.in_ok-listed.ensures in
    c.into_vec-2.ensures
    ∙ c.in_ok-keys-2.ensures
    ∙ ap keys found_is
    ∙ found_keys parts.documents.now parts.listed.now parts.pending.now parts.lists.now c.args.filters.now (c.parts-parts.ensures.lists, c.parts-parts.ensures.others) c.in_order.ensures
    (ap (is_sorted text_cmp) (sym found_is) ∙ c.in_order-2.ensures)
    (sym c.accepts_all.ensures ∙ c.if-accepts_all.false)
    ∙ ap (found c.args.filters.now) c.parts-parts.ensures.documents
