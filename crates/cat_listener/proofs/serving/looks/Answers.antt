use Rattle.cat_listener.proofs.Leading.{led_on}
use Rattle.cat_listener.proofs.serving.looks.Goals as goal

pub returns-in_default : goal.returns-in_default
returns-in_default g c = led_on g.S.Server.answers _ _ _ c.loop.invariant c.turn.ensures

pub returns-in_default-2 : goal.returns-in_default-2
returns-in_default-2 g c = led_on g.S.Server.answers _ _ _ c.loop.invariant c.turn.ensures

pub loop-preserved : goal.loop-preserved
loop-preserved g c = led_on g.S.Server.answers _ _ _ c.loop.invariant c.turn.ensures
