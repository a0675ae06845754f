use Rattle.std.proofs.Common.{◌∙◌}
use Rattle.cat_journal.proofs.Texts.{changes_further}
use Rattle.cat_journal.proofs.body.changes_of.Goals as goal

pub loop-tree-preserved : goal.loop-tree-preserved
loop-tree-preserved c =
    changes_further c.args.trees.now c.loop-tree.tree-index c.tree-item.result _ c.loop-tree.changes.items _ c.in_ok-change_in.field-0 c.loop-tree-test.true c.tree-item.is c.in_ok-change_in.ensures.ok c.in_ok-push.ensures.items
    ∙ c.loop-tree.invariant
