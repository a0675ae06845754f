use Rattle.std.proofs.Common.{ap, cond, sym, ◌∙◌}
use Rattle.cat_collections.specs.Rows.{without}
use Rattle.cat_collections.specs.Table.{put}
use Rattle.cat_search.specs.Index.{term_cmp}
use Rattle.cat_search.proofs.Finds.{after_change}
use Rattle.cat_search.proofs.index.put_set.Goals as goal

pub returns : goal.returns
returns c =
    let t = c.args.term.now in
    let lists = c.args.lists.now in
    after_change c.put.result c.put.new.self _ _ _ c.put.ensures
    (ap (λ k. put term_cmp k c.args.set lists) c.in_ok-term.ensures
    ∙ ap (λ b. cond b (without term_cmp t lists) (put term_cmp t c.args.set lists)) (sym (sym c.is_empty.ensures ∙ c.if-is_empty.false)))
