use Rattle.std.proofs.Common.{get_or, refl, ◌∙◌, arith}
use Rattle.cat_inputs.specs.Inputs.{ref_at}
use Rattle.cat_inputs.proofs.Steps.{each_step}
use Rattle.cat_inputs.proofs.Seen.{no_text}
use Rattle.cat_inputs.proofs.refs.refs_of.Goals as goal

pub loop-text-preserved : goal.loop-text-preserved
loop-text-preserved c = (
  omega (arith, c.loop-text.invariant.0),
  each_step ref_at (λ t. t.now) c.args.texts.now c.loop-text.text-index c.loop-text.place (get_or c.args.texts.now c.loop-text.text-index no_text) no_text c.loop-text.refs.items _ c.in_ok-ref_at.field-0 c.loop-text-test.true refl c.in_ok-ref_at.ensures.ok c.in_ok-push.ensures.items
      ∙ c.loop-text.invariant.1,
)
