-- A desk that a store keeps may go to other threads, where its keeper may.
use denote.Param.Send.{IsSend, IsSync}
use denote.Param.SendFields.{declared_send, declared_sync, variants_send, variants_sync}
use denote.RattleType.{RattleType}
use Rattle.cat_plan.specs.declared.layers.Layers as Layers
use Rattle.cat_io.specs.declared.clock.Clock as Clock
use Rattle.cat_keeper.specs.declared.keeper.Keeper as Keeper
use Rattle.cat_row_format.specs.contracts.row.StoredOffer as StoredOffer
use Rattle.cat_row_format.specs.contracts.row.StoredOutput as StoredOutput
use Rattle.cat_row_format.specs.contracts.row.StoredRow as StoredRow
use Rattle.cat_store.specs.contracts.store.Store as Store
use Rattle.cat_stored_desk.specs.contracts.desk.KeptDesk as KeptDesk
use Rattle.cat_shared.proofs.SentBooks.{catalogue_send, saved_send}
use Rattle.cat_shared.proofs.SentStates.{known, Map-send, Map-sync}

-- ---- rows

offer_send : IsSend StoredOffer.the_row
offer_send = declared_send StoredOffer.the_type (search known depth 60, (search known depth 60, (search known depth 60, (search known depth 60, tt))))

offer_sync : IsSync StoredOffer.the_row
offer_sync = declared_sync StoredOffer.the_type (search known depth 60, (search known depth 60, (search known depth 60, (search known depth 60, tt))))

output_send : IsSend StoredOutput.the_row
output_send = declared_send StoredOutput.the_type (search known depth 60, (search (offer_send, known) depth 60, tt))

output_sync : IsSync StoredOutput.the_row
output_sync = declared_sync StoredOutput.the_type (search known depth 60, (search (offer_sync, known) depth 60, tt))

row_send : IsSend StoredRow.the_row
row_send = variants_send StoredRow.enum (
  (search known depth 60, (search known depth 60, tt)),
  (
    (search known depth 60, (search known depth 60, tt)),
    (
      (search known depth 60, (search known depth 60, (search known depth 60, (search known depth 60, tt)))),
      (
        (search known depth 60, (search known depth 60, tt)),
        (
          (search known depth 60, (search known depth 60, (search known depth 60, (search known depth 60, (search (output_send, known) depth 60, tt))))),
          (
            (search known depth 60, (search known depth 60, (search known depth 60, tt))),
            (
              (search known depth 60, tt),
              (
                (search known depth 60, (search known depth 60, tt)),
                (
                  (search known depth 60, (search known depth 60, (search known depth 60, (search known depth 60, (search known depth 60, tt))))),
                  ((search known depth 60, (search known depth 60, (search known depth 60, (search known depth 60, (output_send, tt))))), tt),
                ),
              ),
            ),
          ),
        ),
      ),
    ),
  ),
)

row_sync : IsSync StoredRow.the_row
row_sync = variants_sync StoredRow.enum (
  (search known depth 60, (search known depth 60, tt)),
  (
    (search known depth 60, (search known depth 60, tt)),
    (
      (search known depth 60, (search known depth 60, (search known depth 60, (search known depth 60, tt)))),
      (
        (search known depth 60, (search known depth 60, tt)),
        (
          (search known depth 60, (search known depth 60, (search known depth 60, (search known depth 60, (search (output_sync, known) depth 60, tt))))),
          (
            (search known depth 60, (search known depth 60, (search known depth 60, tt))),
            (
              (search known depth 60, tt),
              (
                (search known depth 60, (search known depth 60, tt)),
                (
                  (search known depth 60, (search known depth 60, (search known depth 60, (search known depth 60, (search known depth 60, tt))))),
                  ((search known depth 60, (search known depth 60, (search known depth 60, (search known depth 60, (output_sync, tt))))), tt),
                ),
              ),
            ),
          ),
        ),
      ),
    ),
  ),
)

-- ---- a store, and the desk that it keeps

module _ (K : RattleType) (keeper : Keeper.Ghosts K.Denot) (k : IsSend K) where
  store_send : IsSend (Store.the_row K)
  store_send = declared_send (Store.the_type K) (
    search (k, known) depth 20,
    (search known depth 60, (search known depth 60, (search (row_send, row_sync, Map-send, Map-sync, known) depth 60, tt))),
  )

  pub kept_desk_send : (L C : RattleType) (layers : Layers.Ghosts L.Denot) (clock : Clock.Ghosts C.Denot) → IsSend L → IsSend C → IsSend (KeptDesk.the_row L C K layers clock keeper)
  kept_desk_send L C layers clock l c = declared_send (KeptDesk.the_type L C K layers clock keeper) (
    catalogue_send L layers l,
    (search (c, known) depth 20, (search (Map-send, Map-sync, known) depth 60, (store_send, (search known depth 20, (search (saved_send, known) depth 20, tt))))),
  )
