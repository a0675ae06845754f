use Rattle.cat_kinds.proofs.Reverses.{relations_back}
use Rattle.cat_kinds.proofs.law.has_each_reverse.Goals as goal

pub returns : goal.returns
returns c = relations_back
