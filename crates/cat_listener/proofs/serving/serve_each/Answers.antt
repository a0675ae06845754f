use Rattle.cat_listener.proofs.Leading.{led_then}
use Rattle.cat_listener.proofs.serving.serve_each.Goals as goal

pub loop-preserved : goal.loop-preserved
loop-preserved g c = led_then g.S.Server.answers _ _ _ c.loop.invariant c.serve_one.ensures
