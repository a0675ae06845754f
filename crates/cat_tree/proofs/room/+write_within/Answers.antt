use Rattle.std.proofs.Common.{◌≡◌, ℕ, List, ◌+◌, false, length, ap, sym, ◌∙◌, arith, rules}
use Rattle.json.specs.Print.{quoted}
use Rattle.cat_tree.specs.Data.{list, dict, items_of, members_of}
use Rattle.cat_tree.specs.Text.{text_of}
use Rattle.cat_tree.specs.View.{data_of}
use Rattle.cat_tree.proofs.Sizes.{items_size, members_size, item_size, entry_size, list_size, dict_size}
use Rattle.cat_tree.proofs.Weights.{falls}
use Rattle.cat_tree.proofs.room.+write_within.Goals as goal

pub write_within-requires : goal.write_within-requires
write_within-requires t c =
    let xs = c.as_slice-tree-items.result.now in
    let l = c.loop-tree in
    let more = item_size l.later xs l.tree-index c.tree-item.result c.loop-tree-test.true c.tree-item.is in
    let whole : length (text_of (data_of c.args.tree.now)) ≡ 1 + items_size false xs = ap (λ u. length (text_of (data_of u))) c.in-List.is ∙ (ap (λ ds. length (text_of (list (items_of ds)))) (sym c.as_slice-tree-items.ensures) ∙ list_size xs) in
    (search (rules, falls), omega (arith, more, whole, l.invariant.1, l.invariant.2, c.put_comma.ensures.len, c.put_comma.ensures.capacity, c.put-in-List.ensures.len, c.put-in-List.ensures.capacity, c.requires))

pub write_within-requires-in-loop-key : goal.write_within-requires-in-loop-key
write_within-requires-in-loop-key t c =
    let ps = c.as_slice-key-items.result.now in
    let l = c.loop-key in
    let more = entry_size l.later ps l.key-index c.loop-key-item.result c.loop-key-test.true c.loop-key-item.is in
    let whole : length (text_of (data_of c.args.tree.now)) ≡ 1 + members_size false ps = ap (λ u. length (text_of (data_of u))) c.in-Map.is ∙ (ap (λ ds. length (text_of (dict (members_of ds)))) (sym c.as_slice-key-items.ensures.entries) ∙ dict_size ps) in
    let named : length (quoted c.as_str-in-loop-key.result.now) ≡ length (quoted c.loop-key-item.result.0) = ap (λ (s : List ℕ). length (quoted s)) c.as_str-in-loop-key.ensures in
    (search (rules, falls), omega (arith, more, whole, l.invariant.1, l.invariant.2, c.put_comma-in-loop-key.ensures.len, c.put_comma-in-loop-key.ensures.capacity, c.put_quoted-in-loop-key.ensures.len, c.put_quoted-in-loop-key.ensures.capacity, c.put-in-loop-key.ensures.len, c.put-in-loop-key.ensures.capacity, c.put-in-Map.ensures.len, c.put-in-Map.ensures.capacity, named, c.requires))
