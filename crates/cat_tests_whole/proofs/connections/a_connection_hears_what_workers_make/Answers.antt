use denote.Exit.{no}
use denote.Param.Send.{arg_send, param_send}
use denote.Param.SendFields.{declared_send}
use Rattle.cat_shared.proofs.SentStates.{known}
use Rattle.cat_tests_whole.specs.contracts.connections.Watched as Watched
use Rattle.cat_tests_whole.proofs.Sent.{keeper_send}
use Rattle.cat_tests_whole.proofs.connections.a_connection_hears_what_workers_make.Goals as goal

pub run_server-ended-requires-send-K : goal.run_server-ended-requires-send-K
run_server-ended-requires-send-K g c κs = λ e. param_send _ _ (arg_send _ no _ (declared_send (Watched.the_type _) (search (keeper_send, known) depth 60, (search known depth 60, tt))))
