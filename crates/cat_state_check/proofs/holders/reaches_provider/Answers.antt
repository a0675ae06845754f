use Rattle.std.proofs.Common.{sym, ◌∙◌}
use Rattle.cat_state_check.specs.declared.holders.Above.TheVariants.{Holder, Nothing}
use Rattle.cat_state_check.proofs.Climbing.{climbs_on}
use Rattle.cat_state_check.proofs.holders.reaches_provider.Goals as goal

pub returns-in-Nothing : goal.returns-in-Nothing
returns-in-Nothing c = sym (climbs_on c.args.rows.now c.args.holders.now c.loop-left.left c.loop-left.at Nothing c.loop-left-test.true c.in-Nothing.ensures) ∙ c.loop-left.invariant

pub loop-left-preserved : goal.loop-left-preserved
loop-left-preserved c =
    sym (climbs_on c.args.rows.now c.args.holders.now c.loop-left.left c.loop-left.at (Holder c.in-Holder.next) c.loop-left-test.true c.in-Holder.ensures) ∙ c.loop-left.invariant
