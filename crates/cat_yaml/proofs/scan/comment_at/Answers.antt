use Rattle.std.proofs.Common.{ap, sym, ◌∙◌}
use Rattle.cat_yaml.specs.Scan.{begins_comment}
use Rattle.cat_yaml.proofs.Finds.{comment_further}
use Rattle.cat_yaml.proofs.scan.comment_at.Goals as goal

pub loop-i-preserved : goal.loop-i-preserved
loop-i-preserved c =
    comment_further c.args.bytes.now c.loop-i.i c.loop-i-test.true (ap begins_comment (sym c.split_at.ensures.back) ∙ sym c.begins_comment.ensures ∙ c.if-begins_comment.false)
    ∙ c.loop-i.invariant
