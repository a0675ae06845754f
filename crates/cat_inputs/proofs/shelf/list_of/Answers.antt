use Rattle.std.proofs.Common.{◌∙◌}
use Rattle.cat_tree.specs.View.{data_of}
use Rattle.cat_inputs.specs.Shelf.{listed_at}
use Rattle.cat_inputs.proofs.Steps.{each_step}
use Rattle.cat_inputs.proofs.shelf.list_of.Goals as goal

pub loop-i-preserved : goal.loop-i-preserved
loop-i-preserved c =
    each_step listed_at (λ t. data_of t.now) c.args.trees.now c.loop-i.i c.loop-i.i c.index-trees-i.result _ c.loop-i.found.items _ c.in_ok-listed_at.field-0 c.loop-i-test.true c.index-trees-i.is c.in_ok-listed_at.ensures.ok c.in_ok-push.ensures.items
    ∙ c.loop-i.invariant
