-- A catalogue over the real layers may go to other threads.
use denote.Param.Send.{IsSend, sendable}
use denote.RattleType.{RattleType}
use Rattle.cat_desk.specs.contracts.fed.Fed as Fed
use Rattle.cat_io.specs.declared.clock.Clock as Clock
use Rattle.cat_keeper.specs.declared.keeper.Keeper as Keeper
use Rattle.cat_stored_desk.specs.contracts.desk.KeptDesk as KeptDesk
use Rattle.cat_layers.specs.contracts.layered.Layered as Layered
use Rattle.cat_layers.specs.contracts.layered.LayeredLayers.TheImpl as layers
use Rattle.cat_shared.proofs.SentBooks.{fed_send}
use Rattle.cat_server.proofs.SentStores.{kept_desk_send}

layered_send : IsSend Layered.the_row
layered_send = search sendable depth 20

module _ (C : RattleType) (c : IsSend C) where
  pub empty_send : IsSend (Fed.the_row Layered.the_row C layers.ghosts)
  empty_send = fed_send Layered.the_row layers.ghosts layered_send C c

  pub kept_send : (K : RattleType) (keeper : Keeper.Ghosts K.Denot) (clock : Clock.Ghosts C.Denot) → IsSend K → IsSend (KeptDesk.the_row Layered.the_row C K layers.ghosts clock keeper)
  kept_send K keeper clock k = kept_desk_send K keeper k Layered.the_row C layers.ghosts clock layered_send c
