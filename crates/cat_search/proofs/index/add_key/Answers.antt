use Rattle.std.proofs.Common.{ap, ◌∙◌}
use Rattle.cat_collections.specs.Table.{put, text_cmp}
use Rattle.cat_state_parts.specs.Rows.{folded}
use Rattle.cat_search.proofs.Finds.{after_change}
use Rattle.cat_search.proofs.index.add_key.Goals as goal

pub returns : goal.returns
returns c =
    after_change c.put.result c.put.new.self _ _ _ c.put.ensures
    (λ i. put text_cmp ((c.in_ok-key.ensures ∙ ap folded c.as_str.ensures) i) (c.in_ok-set.ensures i) c.args.keyed.now)
