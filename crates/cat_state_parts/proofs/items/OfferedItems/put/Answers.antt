use Rattle.std.proofs.Common.{◌+◌, arith, sym, ap, ◌∙◌}
use Rattle.std.specs.List.{sum_by}
use Rattle.cat_collections.specs.Rows.{without}
use Rattle.cat_collections.proofs.Placed.{to_T}
use Rattle.cat_collections.specs.Table.{Map, text_cmp}
use Rattle.cat_types.specs.declared.input.Offered.{Offered}
use Rattle.cat_state_parts.specs.Bytes.{item_bytes}
use Rattle.cat_state_parts.proofs.Sums.{sum_put}
use Rattle.cat_state_parts.proofs.items.OfferedItems.put.Goals as goal

pub invariant_of-self-2 : goal.invariant_of-self-2
invariant_of-self-2 c =
    let r = c.args.reference in
    let x : Offered = record { key = c.args.offered.key; tree = c.args.offered.tree } in
    let es = c.self.inside.items in
    let left = c.bytes_without.ensures.left ∙ ap (λ (m : Map Offered). sum_by item_bytes (without text_cmp r m)) (sym c.self.view_is) in
    let all = sum_put r x es (to_T _ c.in_order.ensures) in
    record {
      sum = (λ i. left i + c.in_ok-bytes.ensures.length i) ∙ sym all ∙ ap (sum_by item_bytes) (sym c.in_ok-put.ensures);
      small = grind arith;
    }
