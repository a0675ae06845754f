use Rattle.std.proofs.Common.{rules}
use Rattle.std.specs.Ordering.{eq_by_cmp}
use Rattle.std.proofs.lemmas.Fn.{dedup_same}
use Rattle.cat_collections.proofs.Orders.{sorted_from_sort_by, in_order_from_sort}
use Rattle.cat_types.proofs.sorted.in_order.Goals as goal

pub returns : goal.returns
returns g c =
    let o = g.met.K.Key.total in
    let s = g.met.K.Key.apart in
    let sorted = sorted_from_sort_by o s _ c.sort_unstable_by.ensures.sorted (λ a r f' k. search rules) in
    let once = dedup_same _ (eq_by_cmp g.K.Key.order) _ (λ x y b f' x' y' k. search rules) c.sort_unstable_by.new.self.items _ c.dedup_by.ensures.filtered in
    in_order_from_sort o s _ _ _ c.sort_unstable_by.ensures.permutation sorted once
