use Rattle.std.proofs.Common.{◌≡◌, ◌+◌, arith, ◌∙◌, ap, sym, get_or, drop}
use Rattle.std.specs.Prelude.{◌==◌}
use Rattle.cat_http.specs.Lines.{empty_line}
use Rattle.cat_http.proofs.LineLemmas.{head_length-moved, not_feed, not_empty, tail-is}
use Rattle.cat_http.proofs.head.find_head.Goals as goal
use Rattle.cat_http.proofs.head.find_head.Goals.{then-bytes-i-eq10+else-length-gt0, else-bytes-i-eq10}

pub loop-i-preserved : goal.loop-i-preserved
loop-i-preserved c =
    elim c.if-bytes-i-eq10.branch [
      | then-bytes-i-eq10+else-length-gt0 w ↦ head_length-moved c.args.bytes.now c.loop-i.i c.loop-i-test.true c.loop-i.invariant
          (let e : empty_line (drop (c.loop-i.i + 1) c.args.bytes.now) ≡ 0 =
          sym (ap empty_line (tail-is c.args.bytes.now (c.loop-i.i + 1))) ∙ sym w.empty_line_length-length.ensures.value ∙ omega arith in
          not_empty (get_or c.args.bytes.now c.loop-i.i 0 == 10) _ e)
      | else-bytes-i-eq10 w ↦ head_length-moved c.args.bytes.now c.loop-i.i c.loop-i-test.true c.loop-i.invariant
          (not_feed (get_or c.args.bytes.now c.loop-i.i 0) _ w.if-bytes-i-eq10.false)
    ]
