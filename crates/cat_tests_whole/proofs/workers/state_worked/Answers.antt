use denote.Exit.{no}
use denote.Param.Send.{arg_send, param_send, sendable}
use Rattle.cat_tests_whole.specs.contracts.workers.Empty as Empty
use Rattle.cat_tests_whole.proofs.Sent.{share_send}
use Rattle.cat_tests_whole.proofs.workers.state_worked.Goals as goal

pub for_each_mut-requires-send-T : goal.for_each_mut-requires-send-T
for_each_mut-requires-send-T g c κs = λ e. param_send _ _ (arg_send _ no _ (share_send _ Empty.the_row _ _ _ (search sendable depth 20) c.type_bounds.sync-R))
