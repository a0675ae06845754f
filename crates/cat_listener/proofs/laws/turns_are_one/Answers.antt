use Rattle.cat_listener.proofs.Turns.{turns_joined}
use Rattle.cat_listener.proofs.laws.turns_are_one.Goals as goal

pub returns : goal.returns
returns g c = turns_joined g.S.Server.answers
