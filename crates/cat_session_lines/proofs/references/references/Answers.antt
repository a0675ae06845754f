use Rattle.std.proofs.Common.{get_or, refl, ◌∙◌}
use Rattle.cat_inputs.proofs.Steps.{each_step}
use Rattle.cat_inputs.proofs.Seen.{no_text}
use Rattle.cat_session_lines.specs.References.{reference_at}
use Rattle.cat_session_lines.proofs.references.references.Goals as goal

pub loop-i-preserved : goal.loop-i-preserved
loop-i-preserved c =
    each_step reference_at (λ t. t.now) c.args.texts.now c.loop-i.i c.loop-i.i (get_or c.args.texts.now c.loop-i.i no_text) no_text c.loop-i.references.items _ c.in_ok-reference_at.field-0 c.loop-i-test.true refl c.in_ok-reference_at.ensures.ok c.in_ok-push.ensures.items
    ∙ c.loop-i.invariant
