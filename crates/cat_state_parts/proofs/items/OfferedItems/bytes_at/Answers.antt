use Rattle.std.proofs.Common.{◌^◌, min, length, sym, ap, ◌∙◌}
use Rattle.cat_tree.specs.Data.{Data}
use Rattle.cat_tree.specs.Text.{text_of}
use Rattle.cat_collections.proofs.Placed.{to_T}
use Rattle.cat_collections.specs.Table.{Map, get}
use Rattle.cat_types.specs.declared.input.Offered.{Offered}
use Rattle.cat_state_parts.specs.Bytes.{bytes_of}
use Rattle.cat_state_parts.proofs.Sums.{found_bytes}
use Rattle.cat_state_parts.proofs.items.OfferedItems.bytes_at.Goals as goal

pub returns-in-Some : goal.returns-in-Some
returns-in-Some c =
    let r = c.args.reference.now in
    let es = c.self.inside.items in
    c.size.ensures ∙ ap (λ (d : Data). min (length (text_of d)) (2 ^ 62)) c.tree.ensures ∙ found_bytes r es c.self.inside.bytes c.in-Some.offered.now (to_T _ c.in_order.ensures) c.self.invariant (sym c.in-Some.ensures) ∙ ap (λ (m : Map Offered). bytes_of (get m r)) c.self.view_is
