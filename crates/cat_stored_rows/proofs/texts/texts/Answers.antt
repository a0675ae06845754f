use Rattle.std.proofs.Common.{◌≡◌, ◌++◌, [], append-nil, sym, ap, ◌∙◌}
use Rattle.std.specs.FinMap.Entries.{is_sorted}
use Rattle.cat_collections.specs.Left.{items_left}
use Rattle.cat_keeper.specs.Store.{row_cmp}
use Rattle.cat_stored_rows.specs.Stored.{text_in, texts_of}
use Rattle.cat_stored_rows.proofs.Leading.{told_sorted}
use Rattle.cat_stored_rows.proofs.texts.texts.Goals as goal

pub from_vec-requires-clause-rising : goal.from_vec-requires-clause-rising
from_vec-requires-clause-rising c =
    let made = c.loop-entry.entries.items in
    let rows = c.args.rows.now in
    let ended : items_left c.loop-entry.entry-iterator ≡ [] = c.in-None.ensures.steps.0 in
    let whole : made ≡ texts_of rows =
    sym (append-nil made) ∙ (ap (λ l. made ++ texts_of l) (sym ended) ∙ c.loop-entry.invariant.2) in
    ap (is_sorted row_cmp) whole ∙ (told_sorted text_in rows ∙ c.in_order.ensures)
