use Rattle.cat_kinds.proofs.Reverses.{reverse_back}
use Rattle.cat_kinds.proofs.law.reverses_back.Goals as goal

pub returns : goal.returns
returns c = reverse_back
