use Rattle.cat_listener.proofs.Leading.{led_nowhere, led_on, led_then}
use Rattle.cat_listener.proofs.serving.turns.Goals as goal

pub loop-init : goal.loop-init
loop-init g c = led_on g.S.Server.answers _ _ _ (led_nowhere g.S.Server.answers _) c.turn-turned.ensures

pub loop-preserved : goal.loop-preserved
loop-preserved g c = led_then g.S.Server.answers _ _ _ c.loop.invariant c.looks-turned.ensures
