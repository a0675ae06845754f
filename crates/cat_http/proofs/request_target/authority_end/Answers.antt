use Rattle.std.proofs.Common.{◌∙◌, sym}
use Rattle.cat_http.proofs.TargetLemmas.{after_authority-moved}
use Rattle.cat_http.proofs.request_target.authority_end.Goals as goal

pub loop-i-preserved : goal.loop-i-preserved
loop-i-preserved c =
    c.loop-i.invariant ∙ after_authority-moved c.args.bytes.now c.loop-i.i c.loop-i-test.true (sym c.ends_authority.ensures ∙ c.if-ends_authority.false)
