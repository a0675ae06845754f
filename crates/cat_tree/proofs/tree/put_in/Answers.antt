use Rattle.std.proofs.Common.{◌≡◌, Equal, ap, sym, ◌∙◌, nat_cmp, rules}
use Rattle.std.specs.Cmp.Lexicographic.{slice_cmp}
use Rattle.std.specs.FinMap.Entries.{put}
use Rattle.cat_tree.proofs.Puts.{put_equal}
use Rattle.cat_tree.proofs.tree.put_in.Goals as goal

pub returns-in-Equal : goal.returns-in-Equal
returns-in-Equal c =
    let l = c.loop-place in
    let tie : slice_cmp nat_cmp c.args.key c.index.result.now.0 ≡ Equal = (λ i. slice_cmp nat_cmp (sym c.as_str.ensures i) (sym c.as_str-in-loop-place.ensures i)) ∙ sym c.in-Equal.ensures in
    put_equal (slice_cmp nat_cmp) l.items.items l.place c.args.key c.args.tree c.index.result.now c.index_mut.result.now (search rules) c.index.ensures c.index_mut.ensures.value tie l.invariant.1
    ∙ ap (λ v. put (slice_cmp nat_cmp) c.args.key c.args.tree v.items) l.invariant.2
