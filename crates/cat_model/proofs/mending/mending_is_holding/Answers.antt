-- What mending gives.
use Rattle.cat_model.proofs.Mended.{rehold-is}
use Rattle.cat_model.proofs.Left.{standing-is, others_stay}
use Rattle.cat_model.proofs.mending.mending_is_holding.Goals as goal

pub returns-clause-holders : goal.returns-clause-holders
returns-clause-holders c o before rows next holders were after in_order = rehold-is o before rows next holders were after in_order

pub returns-clause-rows : goal.returns-clause-rows
returns-clause-rows c o before rows next holders were after opens = standing-is o before rows next holders were after opens

pub returns-clause-others : goal.returns-clause-others
returns-clause-others c o before rows next holders were after r h out = others_stay o before rows next holders were after r h out
