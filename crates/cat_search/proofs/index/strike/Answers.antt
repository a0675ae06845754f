use Rattle.std.proofs.Common.{subst}
use Rattle.cat_search.specs.Index.{Lists, AreStruck}
use Rattle.cat_search.proofs.Listed.{strikes_left}
use Rattle.cat_search.proofs.index.strike.Goals as goal

pub loop-left-preserved : goal.loop-left-preserved
loop-left-preserved c new h =
    c.loop-left.invariant new
    (strikes_left c.loop-left.left.now c.first-item.result c.split_run.result.0.now c.split_run.result.1.now c.loop-left.lists new
    c.in-len1-up.len_at_least c.first-item.is c.split_run.ensures.alike c.split_run.ensures.parts
    (subst (λ (lists : Lists). AreStruck c.split_run.result.1.now lists new) c.in_ok-strike_run.ensures h))
