use Rattle.cat_pieces.proofs.Messages.{answered_all}
use Rattle.cat_pieces.proofs.laws.turns_are_messages.Goals as goal

pub returns : goal.returns
returns g c = answered_all g.M.Machine.answers g.M.Machine.lacks
