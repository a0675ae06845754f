use denote.Exit.{no}
use denote.Param.Send.{arg_send, param_send}
use Rattle.cat_backends.proofs.SentFiles.{place_keeper_send}
use Rattle.catalogue.proofs.main.Goals as goal

pub run-requires-send-K : goal.run-requires-send-K
run-requires-send-K g c κs = param_send _ _ (arg_send _ no _ place_keeper_send)
