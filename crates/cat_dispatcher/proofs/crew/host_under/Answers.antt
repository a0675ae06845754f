use denote.Exit.{no}
use denote.Param.Send.{arg_send, param_send}
use Rattle.cat_dispatcher.proofs.SentHelpers.{server_send, worker_send}
use Rattle.cat_dispatcher.proofs.crew.host_under.Goals as goal

pub serve-requires-send-S : goal.serve-requires-send-S
serve-requires-send-S g c κs = λ e. param_send _ _ (arg_send _ no _ (server_send _ _ _ _ _ _ g.L.Layers g.B.TimedDesk g.N.Named c.type_bounds.send-L c.type_bounds.send-B c.type_bounds.send-N c.type_bounds.sync-R))

pub serve-requires-send-W : goal.serve-requires-send-W
serve-requires-send-W g c κs = λ e. param_send _ _ (arg_send _ no _ (worker_send _ _ _ _ _ _ g.L.Layers g.B.TimedDesk g.N.Named c.type_bounds.send-L c.type_bounds.send-B c.type_bounds.send-N c.type_bounds.sync-R c.type_bounds.sync-L))
