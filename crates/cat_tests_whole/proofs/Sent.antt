-- A keeper in memory may go to other threads, and so may a share of a book, and its desk.
use denote.Param.Send.{IsSend, IsSync, sendable, view_send}
use denote.Param.SendFields.{declared_send}
use denote.RattleType.{RattleType}
use denote.Ref.{NamedLft}
use Rattle.cat_desk.specs.contracts.fed.Fed as Fed
use Rattle.cat_dispatcher.specs.contracts.share.Share as Share
use Rattle.cat_shared.specs.contracts.shared.SharedDesk as SharedDesk
use Rattle.cat_shared.specs.declared.book.Named as Named
use Rattle.cat_desk.specs.declared.timed_desk.TimedDesk as TimedDesk
use Rattle.cat_io.specs.contracts.clock.FixedClock as FixedClock
use Rattle.cat_keeper.specs.contracts.memory.MemoryKeeper as MemoryKeeper
use Rattle.cat_keeper.specs.contracts.memory.MemoryKeeper.TheInside as inside
use Rattle.cat_layers.specs.contracts.layered.Layered as Layered
use Rattle.cat_layers.specs.contracts.layered.LayeredLayers.TheImpl as layers
use Rattle.cat_shared.proofs.SentBooks.{book_send, fed_send, shared_send}
use Rattle.cat_shared.proofs.SentStates.{Map-send, known}

pub keeper_send : IsSend MemoryKeeper.the_row
keeper_send = view_send _ _ _ _ _ (declared_send inside.the_type (search (Map-send, known) depth 60, (search known depth 60, tt)))

layered_send : IsSend Layered.the_row
layered_send = search sendable depth 20

clock_send : IsSend FixedClock.the_row
clock_send = search known depth 60

still_send : IsSend (Fed.the_row Layered.the_row FixedClock.the_row layers.ghosts)
still_send = fed_send Layered.the_row layers.ghosts layered_send FixedClock.the_row clock_send

module _ (a : NamedLft) (N R : RattleType) (timed : TimedDesk.Ghosts (Fed.the_row Layered.the_row FixedClock.the_row layers.ghosts).Denot Layered.the_row.Denot) (named : Named.Ghosts N.Denot)
    (n : IsSend N) (r : IsSync R) where
  pub desk_send : IsSend (SharedDesk.the_row a Layered.the_row (Fed.the_row Layered.the_row FixedClock.the_row layers.ghosts) N R layers.ghosts timed named)
  desk_send = shared_send Layered.the_row (Fed.the_row Layered.the_row FixedClock.the_row layers.ghosts) N layers.ghosts timed named a R (book_send Layered.the_row (Fed.the_row Layered.the_row FixedClock.the_row layers.ghosts) N layers.ghosts timed named layered_send still_send n) r

  pub share_send : IsSend (Share.the_row a Layered.the_row (Fed.the_row Layered.the_row FixedClock.the_row layers.ghosts) N R layers.ghosts timed named)
  share_send = declared_send (Share.the_type a Layered.the_row (Fed.the_row Layered.the_row FixedClock.the_row layers.ghosts) N R layers.ghosts timed named) (desk_send, tt)
