use Rattle.std.proofs.Common.{refl, ap, ◌∙◌, arith}
use Rattle.std.specs.Fmt.{decimal}
use Rattle.cat_sample.specs.Summary.{document_at, owned_in}
use Rattle.cat_sample.proofs.Rest.{owned_moved}
use Rattle.cat_sample.proofs.summary.push_owned.Goals as goal

pub loop-number-preserved : goal.loop-number-preserved
loop-number-preserved c = (
  omega arith,
  owned_moved c.args.documents.now c.loop-number.pieces.items c.push.new.self.items c.push-in-loop-number.new.self.items _ _ c.loop-number.number _
      c.in_ok-push.ensures.items c.in_ok-push-2.ensures.items refl
      (ap decimal (c.owned-owned.ensures ∙ ap (λ n. owned_in (document_at n c.args.documents.now)) (c.as_str.ensures ∙ c.in_ok-name.ensures)))
      (omega arith) c.loop-number.invariant.1,
)
