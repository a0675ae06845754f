use Rattle.std.proofs.Common.{T, ◌≡◌, Bool, true, false, ap, sym, ◌∙◌, true≢false}
use Rattle.cat_collections.specs.Rows.{without}
use Rattle.cat_collections.specs.Table.{text_cmp}
use Rattle.cat_events.proofs.Stored.{without_is}
use Rattle.cat_mutations.proofs.change.shelf_without.Goals as goal

to_T : (b : Bool) → b ≡ true → T b
to_T true h = tt
to_T false h = absurd (true≢false (sym h))

pub returns : goal.returns
returns c =
    let name = c.args.name.now in
    c.in_ok-remove.ensures ∙ (ap (without text_cmp name) c.in_ok-shelf.ensures ∙ sym (without_is name c.args.m.now.shelf (to_T _ c.in_order.ensures)))
