use Rattle.std.proofs.Common.{◌++◌, ap, ◌∙◌, arith}
use Rattle.cat_sample.specs.Sample.{item_of}
use Rattle.cat_sample.proofs.Rest.{components_moved}
use Rattle.cat_sample.proofs.generate.push_components.Goals as goal

pub loop-number-preserved : goal.loop-number-preserved
loop-number-preserved c = (
  omega arith,
  c.next_seed-state.ensures.below,
  components_moved c.loop-number.items c.push_item.new.items c.loop-number.state c.next_seed-state.result c.loop-number.number c.args.count _
      (c.in_ok-push_item.ensures ∙ ap (λ d. c.loop-number.items ++ item_of d) c.in_ok-component.ensures) c.next_seed-state.ensures.next (omega arith) c.loop-number.invariant.2,
)
