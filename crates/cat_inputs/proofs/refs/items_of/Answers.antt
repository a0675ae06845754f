use Rattle.std.proofs.Common.{◌∙◌}
use Rattle.cat_inputs.specs.Inputs.{item_at}
use Rattle.cat_inputs.specs.Lent.{entry_of}
use Rattle.cat_inputs.proofs.Steps.{each_step}
use Rattle.cat_inputs.proofs.refs.items_of.Goals as goal

pub loop-i-preserved : goal.loop-i-preserved
loop-i-preserved c =
    each_step item_at entry_of c.args.entries.now c.loop-i.i c.loop-i.i c.index-entries-i.result _ c.loop-i.items.items _ c.in_ok-item_at.field-0 c.loop-i-test.true c.index-entries-i.is c.in_ok-item_at.ensures.ok c.in_ok-push.ensures.items
    ∙ c.loop-i.invariant
