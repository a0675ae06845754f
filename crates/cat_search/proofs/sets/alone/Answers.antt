use Rattle.cat_search.proofs.Finds.{common_one, given}
use Rattle.cat_search.proofs.sets.alone.Goals as goal

pub returns : goal.returns
returns c = given c.share.result c.args.set.now _ (common_one c.args.set.now c.in_order.ensures) c.share.ensures
