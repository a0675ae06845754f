-- What serves and what works may go to other threads.
use denote.Param.Send.{IsSend, IsSync, shr_send}
use denote.Param.SendFields.{declared_send, variants_send}
use denote.RattleType.{RattleType}
use denote.Ref.{NamedLft}
use Rattle.cat_types.specs.contracts.work.Outcome as Outcome
use Rattle.cat_model.specs.contracts.types.Order as Order
use Rattle.cat_model.specs.contracts.types.StitchOrder as StitchOrder
use Rattle.cat_plan.specs.declared.layers.Layers as Layers
use Rattle.cat_events.specs.contracts.done.Done as Done
use Rattle.cat_events.specs.contracts.done.Stitched as Stitched
use Rattle.cat_shared.specs.declared.book.Named as Named
use Rattle.cat_shared.specs.contracts.shared.SharedDesk as SharedDesk
use Rattle.cat_desk.specs.declared.timed_desk.TimedDesk as TimedDesk
use Rattle.cat_api.specs.contracts.service.Service as Service
use Rattle.cat_dispatcher.specs.contracts.answering.Answering as Answering
use Rattle.cat_dispatcher.specs.contracts.share.Share as Share
use Rattle.cat_dispatcher.specs.contracts.working.Working as Working
use Rattle.cat_requests.proofs.SentRoutes.{routes_send}
use Rattle.cat_shared.proofs.SentBooks.{book_send, order_sync, shared_send, stitch_order_sync}
use Rattle.cat_shared.proofs.SentStates.{known, output_send}

outcome_send : IsSend Outcome.the_row
outcome_send = variants_send Outcome.enum ((output_send, (search known depth 60, tt)), ((search known depth 60, tt), tt))

module _ (F S D : RattleType) where
  service_send : IsSend F → IsSend S → IsSend D → IsSend (Service.the_row F S D)
  service_send f s d = declared_send (Service.the_type F S D) (search known depth 60, (search (d, known) depth 20, (search (routes_send, known) depth 60, (search (f, known) depth 20, (search (s, known) depth 20, tt)))))

module _ (a b : NamedLft) (L B N R : RattleType) (layers : Layers.Ghosts L.Denot) (timed : TimedDesk.Ghosts B.Denot L.Denot) (named : Named.Ghosts N.Denot)
    (l : IsSend L) (d : IsSend B) (n : IsSend N) (r : IsSync R) where
  desk_send : IsSend (SharedDesk.the_row a L B N R layers timed named)
  desk_send = shared_send L B N layers timed named a R (book_send L B N layers timed named l d n) r

  done_send : IsSend (Done.the_row b L layers)
  done_send = declared_send (Done.the_type b L layers) (shr_send _ _ Order.the_row order_sync, (outcome_send, (search (l, known) depth 60, tt)))

  stitched_send : IsSend (Stitched.the_row b L layers)
  stitched_send = declared_send (Stitched.the_type b L layers) (shr_send _ _ StitchOrder.the_row stitch_order_sync, (search known depth 60, (search (l, known) depth 60, tt)))

  pub server_send : IsSend (Answering.the_row (Service.the_row (Done.the_row b L layers) (Stitched.the_row b L layers) (SharedDesk.the_row a L B N R layers timed named)))
  server_send = declared_send (Answering.the_type (Service.the_row (Done.the_row b L layers) (Stitched.the_row b L layers) (SharedDesk.the_row a L B N R layers timed named)))
      (search known depth 60, (service_send (Done.the_row b L layers) (Stitched.the_row b L layers) (SharedDesk.the_row a L B N R layers timed named) done_send stitched_send desk_send, tt))

  share_send : IsSend (Share.the_row a L B N R layers timed named)
  share_send = declared_send (Share.the_type a L B N R layers timed named) (desk_send, tt)

  pub worker_send : IsSync L → IsSend (Working.the_row b L (Share.the_row a L B N R layers timed named))
  worker_send l' = declared_send (Working.the_type b L (Share.the_row a L B N R layers timed named)) (search known depth 60, (search (l', known) depth 20, (share_send, (search known depth 60, tt))))
