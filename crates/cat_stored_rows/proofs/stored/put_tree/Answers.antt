use Rattle.std.proofs.Common.{sym, ◌∙◌}
use Rattle.std.proofs.lemmas.Result.{on_ok_weaker}
use Rattle.cat_stored_rows.specs.Stored.{put_rows, tree_rows}
use Rattle.cat_stored_rows.proofs.stored.put_tree.Goals as goal

pub returns-in_ok-tree-in-Two : goal.returns-in_ok-tree-in-Two
returns-in_ok-tree-in-Two c =
    on_ok_weaker c.put_row.result
    (λ e. e ∙ (λ i. put_rows (tree_rows (sym c.in-Two.is i) c.args.arrival (c.in_ok-tree-in-Two.ensures i)) c.args.made.now))
    c.put_row.ensures
