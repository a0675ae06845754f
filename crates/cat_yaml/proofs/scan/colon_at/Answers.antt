use Rattle.std.proofs.Common.{ap, sym, ◌∙◌}
use Rattle.cat_yaml.specs.Scan.{begins_comment, begins_colon}
use Rattle.cat_yaml.proofs.Finds.{colon_further}
use Rattle.cat_yaml.proofs.scan.colon_at.Goals as goal

pub loop-i-preserved : goal.loop-i-preserved
loop-i-preserved c =
    colon_further c.args.bytes.now c.loop-i.i c.loop-i-test.true (ap begins_comment (sym c.split_at.ensures.back) ∙ sym c.begins_comment.ensures ∙ c.if-begins_comment.false) (ap begins_colon (sym c.split_at.ensures.back) ∙ sym c.begins_colon.ensures ∙ c.if-begins_colon.false)
    ∙ c.loop-i.invariant
