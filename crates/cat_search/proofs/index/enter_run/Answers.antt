use Rattle.std.proofs.Common.{ap, map, ◌∙◌}
use Rattle.cat_collections.specs.Table.{put, text_cmp}
use Rattle.cat_search.specs.Index.{term_cmp, with_references}
use Rattle.cat_search.proofs.Finds.{after_change}
use Rattle.cat_search.proofs.index.enter_run.Goals as goal

pub returns : goal.returns
returns c =
    after_change c.put.result c.put.new.self _ _ _ c.put.ensures
    (λ i. put term_cmp (c.in_ok-term.ensures i)
    ((c.in_ok-set-2.ensures ∙ ap (with_references (map (λ p. p.1) c.args.run.now)) (c.in_ok-enter.ensures ∙ ap (put text_cmp c.args.first.now.1 (tt {0})) c.in_ok-set.ensures)) i)
    c.args.lists.now)
