use Rattle.std.proofs.Common.{ap, sym, ◌∙◌}
use Rattle.std.specs.FinMap.Entries.{is_sorted}
use Rattle.cat_collections.specs.Table.{keys, text_cmp}
use Rattle.cat_search.specs.Filter.{matching}
use Rattle.cat_search.specs.Index.{corrected}
use Rattle.cat_search.proofs.Entries.{all_match, documents_found}
use Rattle.cat_search.proofs.Finds.{each_ok, found_keys}
use Rattle.cat_search.proofs.index.matching.Goals as goal

pub returns-then-accepts_all : goal.returns-then-accepts_all
returns-then-accepts_all c =
    let all = all_match c.parts-parts.result.documents.now c.args.filters.now (sym c.accepts_all.ensures ∙ c.if-accepts_all.true) ∙ ap (matching c.args.filters.now) c.parts-parts.ensures.documents in
    each_ok c.all_entries.result _ _ (λ v e. e ∙ all) c.all_entries.ensures

pub returns : goal.returns
returns c =
    let parts = c.parts-parts.result in
    let found_is = c.in_ok-found.ensures ∙ ap (corrected c.args.filters.now parts.documents.now parts.pending.now) c.in_ok-listed.ensures in
    let keys_are =
    ap keys found_is
    ∙ found_keys parts.documents.now parts.listed.now parts.pending.now parts.lists.now c.args.filters.now (c.parts-parts.ensures.lists, c.parts-parts.ensures.others) c.in_order.ensures
    (ap (is_sorted text_cmp) (sym found_is) ∙ c.in_order-2.ensures)
    (sym c.accepts_all.ensures ∙ c.if-accepts_all.false) in
    let all = documents_found parts.documents.now c.in_ok-found.found c.args.filters.now c.in_order.ensures keys_are ∙ ap (matching c.args.filters.now) c.parts-parts.ensures.documents in
    each_ok c.documents_of.result _ _ (λ v e. e ∙ all) c.documents_of.ensures
