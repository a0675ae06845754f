use Rattle.std.proofs.Common.{◌∙◌, arith}
use Rattle.cat_yaml.proofs.Ends.{dropped, stays, nothing}
use Rattle.cat_yaml.proofs.scan.trimmed.Goals as goal
use Rattle.cat_yaml.proofs.scan.trimmed.Goals.{then-loop-end-test+else-bytes-end, else-loop-end-test}

pub loop-end-preserved : goal.loop-end-preserved
loop-end-preserved c = (
  omega arith,
  dropped c.args.byte c.args.bytes.now c.loop-end.end _ (omega arith) (omega arith) c.if-bytes-end.true ∙ c.loop-end.invariant.1,
)

pub returns : goal.returns
returns c =
    elim c.loop-end-test.branch [
      | then-loop-end-test+else-bytes-end w ↦ stays c.args.byte c.args.bytes.now c.loop-end.end _ (omega arith) (omega arith) w.if-bytes-end.false ∙ c.loop-end.invariant.1
      | else-loop-end-test w ↦ nothing c.args.byte c.args.bytes.now c.loop-end.end (omega arith) ∙ c.loop-end.invariant.1
    ]
