use Rattle.cat_search.proofs.Finds.{common_from, given}
use Rattle.cat_search.proofs.sets.common_at.Goals as goal

pub returns : goal.returns
returns c =
    given c.kept.result _ _
    (common_from c.args.sets.now c.args.place c.index-sets-0.result c.index-sets-place.result c.requires c.index-sets-0.is c.index-sets-place.is c.in_order.ensures c.in_order-2.ensures)
    c.kept.ensures
