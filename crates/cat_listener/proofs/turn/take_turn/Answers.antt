use Rattle.cat_listener.proofs.Turns.{turn_none, turn_then}
use Rattle.cat_listener.proofs.turn.take_turn.Goals as goal

pub loop-init : goal.loop-init
loop-init g c = turn_none g.S.Server.answers _ _ _ _

pub returns-in-Some-step_on : goal.returns-in-Some-step_on
returns-in-Some-step_on g c = record { turned = turn_then g.S.Server.answers _ _ _ _ _ _ _ _ _ _ _ _ c.loop.invariant c.step_on.ensures.turned }

pub loop-preserved : goal.loop-preserved
loop-preserved g c = turn_then g.S.Server.answers _ _ _ _ _ _ _ _ _ _ _ _ c.loop.invariant c.step_on.ensures.turned
