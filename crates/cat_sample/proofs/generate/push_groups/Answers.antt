use Rattle.std.proofs.Common.{◌-◌, ◌++◌, ap, ◌∙◌, arith}
use Rattle.cat_sample.specs.Sample.{group_tree, groups, item_of}
use Rattle.cat_sample.proofs.Rest.{groups_next, moved}
use Rattle.cat_sample.proofs.generate.push_groups.Goals as goal

pub loop-number-preserved : goal.loop-number-preserved
loop-number-preserved c = (
  omega arith,
  moved c.loop-number.items c.push_item.new.items (item_of (group_tree c.loop-number.number)) (groups c.loop-number.number (10 - c.loop-number.number)) _ _
      (c.in_ok-push_item.ensures ∙ ap (λ d. c.loop-number.items ++ item_of d) c.in_ok-group.ensures) (groups_next c.loop-number.number (omega arith)) c.loop-number.invariant.1,
)
