use Rattle.std.proofs.Common.{ap, sym, ◌∙◌}
use Rattle.cat_row_faults.specs.Rules.{above}
use Rattle.cat_row_faults.specs.Told.{asked}
use Rattle.cat_row_faults.specs.declared.climb.Above.TheVariants.{Row, Nothing}
use Rattle.cat_row_faults.proofs.Climbing.{climbs_on}
use Rattle.cat_row_faults.proofs.climb.climbs.Goals as goal

pub returns-in-Nothing : goal.returns-in-Nothing
returns-in-Nothing c = sym (climbs_on (asked c.args.told.now) c.loop-left.left c.loop-left.at Nothing c.loop-left-test.true (c.in-Nothing.ensures ∙ ap (above (asked c.args.told.now)) c.get.ensures)) ∙ c.loop-left.invariant

pub loop-left-preserved : goal.loop-left-preserved
loop-left-preserved c = sym (climbs_on (asked c.args.told.now) c.loop-left.left c.loop-left.at (Row c.in-Row.next) c.loop-left-test.true (c.in-Row.ensures ∙ ap (above (asked c.args.told.now)) c.get.ensures)) ∙ c.loop-left.invariant
