use denote.Exit.{no}
use denote.Param.Send.{arg_send, param_send}
use Rattle.gauge.proofs.Sent.{counter_send}
use Rattle.gauge.proofs.turns.count_in_turns.Goals as goal

pub for_each_mut-requires-send-T : goal.for_each_mut-requires-send-T
for_each_mut-requires-send-T g c κs = λ e. param_send _ _ (arg_send _ no _ (counter_send _ _ c.type_bounds.sync-R))
