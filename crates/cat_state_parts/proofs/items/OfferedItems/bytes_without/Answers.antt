use Rattle.std.proofs.Common.{◌-◌, ◌≤◌, sym, ap, subst, ◌∙◌}
use Rattle.std.specs.List.{sum_by}
use Rattle.cat_collections.specs.Rows.{without}
use Rattle.cat_collections.proofs.Placed.{to_T}
use Rattle.cat_collections.specs.Table.{Map, get, text_cmp}
use Rattle.cat_types.specs.declared.input.Offered.{Offered}
use Rattle.cat_state_parts.specs.Bytes.{bytes_of, item_bytes}
use Rattle.cat_state_parts.proofs.Sums.{one_less}
use Rattle.cat_state_parts.proofs.items.OfferedItems.bytes_without.Goals as goal

pub overflow_sub-result : goal.overflow_sub-result
overflow_sub-result c =
    let r = c.args.reference.now in
    let es = c.self.inside.items in
    let bytes = c.self.inside.bytes in
    let at = c.bytes_at.ensures ∙ ap (λ (m : Map Offered). bytes_of (get m r)) (sym c.self.view_is) in
    subst (λ n. n ≤ bytes) (sym at) (one_less r es bytes (to_T _ c.in_order.ensures) c.self.invariant).0

pub returns-clause-left : goal.returns-clause-left
returns-clause-left c =
    let r = c.args.reference.now in
    let es = c.self.inside.items in
    let bytes = c.self.inside.bytes in
    let at = c.bytes_at.ensures ∙ ap (λ (m : Map Offered). bytes_of (get m r)) (sym c.self.view_is) in
    ap (λ n. bytes - n) at ∙ (one_less r es bytes (to_T _ c.in_order.ensures) c.self.invariant).1 ∙ ap (λ (m : Map Offered). sum_by item_bytes (without text_cmp r m)) c.self.view_is
