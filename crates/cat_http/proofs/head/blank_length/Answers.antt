use Rattle.std.proofs.Common.{arith, ◌∙◌, ap}
use Rattle.cat_http.specs.Lines.{empty_line}
use Rattle.cat_http.proofs.LineLemmas.{blank-moved, blank-ended, tail-is}
use Rattle.cat_http.proofs.head.blank_length.Goals as goal

pub lines-preserved : goal.lines-preserved
lines-preserved c =
    blank-moved c.args.bytes.now c.lines.at c.empty_line_length-length.result c.lines.invariant.0 c.lines.invariant.1
    (c.empty_line_length-length.ensures.value ∙ ap empty_line (tail-is c.args.bytes.now c.lines.at)) (omega arith)

pub returns-then-length-eq0-clause-value : goal.returns-then-length-eq0-clause-value
returns-then-length-eq0-clause-value c =
    blank-ended c.args.bytes.now c.lines.at c.empty_line_length-length.result c.lines.invariant.1
    (c.empty_line_length-length.ensures.value ∙ ap empty_line (tail-is c.args.bytes.now c.lines.at)) c.if-length-eq0.true
