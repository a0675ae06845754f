use Rattle.std.proofs.Common.{refl, arith}
use Rattle.cat_journal.proofs.Passing.{opened_inside, scan_step}
use Rattle.cat_journal.proofs.records.scan.Goals as goal

pub loop-rows-preserved : goal.loop-rows-preserved
loop-rows-preserved c =
    let step = rw c.in-Open.is at c.in_ok-pass.ensures in record {
      inside = omega (arith, opened_inside c.args.content.now c.loop-rows.at c.in-Open.count step.0);
      passed = scan_step c.args.content.now c.loop-rows.at c.in-Open.count _ c.loop-rows.rows _ step.0 step.1 step.2 refl c.loop-rows.invariant.passed;
    }
