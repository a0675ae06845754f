use denote.Exit.{no}
use denote.Param.Send.{IsSend, IsSync, arg_send, param_send, sendable}
use denote.Param.SendFields.{declared_send, variants_send}
use denote.RattleType.{RattleType}
use denote.Ref.{NamedLft}
use Rattle.cat_shared.proofs.SentStates.{known}
use Rattle.cat_tests_whole.specs.contracts.replayed.Client as Client
use Rattle.cat_tests_whole.specs.contracts.replayed.Helper as Helper
use Rattle.cat_tests_whole.specs.contracts.workers.Empty as Empty
use Rattle.cat_tests_whole.proofs.Sent.{desk_send, share_send}
use Rattle.cat_tests_whole.proofs.replayed.compared_after.Goals as goal

-- ---- a helper may go to another thread

module _ (a : NamedLft) (R : RattleType) (r : IsSync R) where
  empty_send : IsSend Empty.the_row
  empty_send = search sendable depth 20

  client_send : IsSend (Client.the_row a R)
  client_send = declared_send (Client.the_type a R) (search known depth 60, (desk_send a Empty.the_row R _ _ empty_send r, tt))

  helper_send : IsSend (Helper.the_row a R)
  helper_send = variants_send (Helper.enum a R) (
    (client_send, tt),
    ((share_send a Empty.the_row R _ _ empty_send r, tt), ((share_send a Empty.the_row R _ _ empty_send r, tt), tt)),
  )

pub for_each_mut-requires-send-T : goal.for_each_mut-requires-send-T
for_each_mut-requires-send-T g c κs = λ e. param_send _ _ (arg_send _ no _ (helper_send _ _ c.type_bounds.sync-R))
