use Rattle.std.proofs.Common.{ap, sym, ◌∙◌, ◌++◌, map}
use Rattle.std.specs.Option.{option_map}
use Rattle.cat_tree.specs.Data.{dict, members_of}
use Rattle.cat_tree.specs.View.{data_of, entry_of}
use Rattle.cat_query.specs.Project.{filled, reached, below, entry_kept}
use Rattle.cat_query.proofs.Kept.{looked_further, looked_at_all, reached_map}
use Rattle.cat_query.proofs.project.+reached.Goals as goal

pub loop-key-preserved : goal.loop-key-preserved
loop-key-preserved t c =
    let ps = map (λ p. p.now) c.args.paths.now in
    let x = c.loop-key-item.result in
    let o = option_map data_of c.in_ok-part-in-Map.part in
    looked_further ps c.as_slice-key-items.result.now c.loop-key.key-index x (map entry_of c.loop-key.items.items) (map entry_of c.keep.new.items.items) o _
    c.loop-key-test.true c.loop-key-item.is
    (c.in_ok-keep-in-Map.ensures ∙ ap (λ k. map entry_of c.loop-key.items.items ++ entry_kept k o) c.as_str-in-loop-key.ensures)
    (c.in_ok-part-in-Map.ensures ∙ ap (λ l. reached l (data_of x.1)) (ap (map (λ p. p.now)) c.as_slice.ensures.value ∙ c.in_ok-rests-in-Map.ensures ∙ ap (λ k. below k ps) c.as_str.ensures))
    c.loop-key.invariant

pub returns-after-loop-key : goal.returns-after-loop-key
returns-after-loop-key t c =
    let ps = map (λ p. p.now) c.args.paths.now in
    c.filled.ensures
    ∙ ap filled (looked_at_all ps c.as_slice-key-items.result.now c.loop-key.key-index _ _ c.loop-key-test.false c.loop-key.invariant.0)
    ∙ sym (reached_map ps (data_of c.args.tree.now) _ (sym c.has_end.ensures ∙ c.if-has_end.false)
    (ap data_of c.in-Map.is ∙ ap (λ l. dict (members_of l)) (sym c.as_slice-key-items.ensures.entries)))
