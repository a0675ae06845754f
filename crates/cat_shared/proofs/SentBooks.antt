-- A book may go to other threads, and so may a share of it.
use denote.Param.Send.{IsSend, IsSync, view_send, shr_send}
use denote.Param.SendFields.{declared_send, declared_sync, variants_send}
use denote.RattleType.{RattleType}
use denote.Ref.{NamedLft}
use Rattle.std.proofs.Crossing.{Box-send}
use Rattle.cat_types.specs.contracts.input.Mutation as Mutation
use Rattle.cat_types.specs.contracts.parts.Parts as Parts
use Rattle.cat_model.specs.contracts.types.Order as Order
use Rattle.cat_model.specs.contracts.types.StitchOrder as StitchOrder
use Rattle.cat_plan.specs.declared.layers.Layers as Layers
use Rattle.cat_io.specs.declared.clock.Clock as Clock
use Rattle.cat_core.specs.contracts.ledger.Ledger as Ledger
use Rattle.cat_core.specs.contracts.catalogue.Catalogue as Catalogue
use Rattle.cat_core.specs.contracts.catalogue.Catalogue.TheInside as within
use Rattle.cat_core.specs.contracts.catalogue.Held as Held
use Rattle.cat_core.specs.contracts.catalogue.Saved as Saved
use Rattle.cat_core.specs.contracts.catalogue.Saved.TheInside as saved
use Rattle.cat_desk.specs.contracts.command.Reply as Reply
use Rattle.cat_desk.specs.contracts.timed.Timed as Timed
use Rattle.cat_desk.specs.contracts.fed.Fed as Fed
use Rattle.cat_turns.specs.contracts.turns.Turns as Turns
use Rattle.cat_shared.specs.declared.book.Named as Named
use Rattle.cat_shared.specs.contracts.book.Book as Book
use Rattle.cat_shared.specs.contracts.entry.Entry as Entry
use Rattle.cat_shared.specs.contracts.entry.Input as Input
use Rattle.cat_shared.specs.contracts.entry.Noted as Noted
use Rattle.cat_shared.specs.contracts.shared.SharedDesk as SharedDesk
use Rattle.cat_desk.specs.declared.timed_desk.TimedDesk as TimedDesk
use Rattle.cat_shared.specs.contracts.tells.BookTells.TheImpl as tells
use Rattle.cat_shared.proofs.SentStates.{known, state_send, links_send, Map-send, Map-sync}
use Rattle.cat_history.proofs.SentHistory.{History-send}
use Rattle.cat_turns.proofs.SentTurns.{turns_sync, pass_send}

-- ---- what was done

parts_send : IsSend Parts.the_row
parts_send = declared_send Parts.the_type (search known depth 60, (search known depth 60, (search known depth 60, (search known depth 60, (search known depth 60, tt)))))

order_send : IsSend Order.the_row
order_send = declared_send Order.the_type (search known depth 60, (search known depth 60, (search known depth 60, tt)))

pub order_sync : IsSync Order.the_row
order_sync = declared_sync Order.the_type (search known depth 60, (search known depth 60, (search known depth 60, tt)))

parts_sync : IsSync Parts.the_row
parts_sync = declared_sync Parts.the_type (search known depth 60, (search known depth 60, (search known depth 60, (search known depth 60, (search known depth 60, tt)))))

pub stitch_order_sync : IsSync StitchOrder.the_row
stitch_order_sync = declared_sync StitchOrder.the_type (search known depth 60, (search known depth 60, (parts_sync, tt)))

stitch_order_send : IsSend StitchOrder.the_row
stitch_order_send = declared_send StitchOrder.the_type (search known depth 60, (search known depth 60, (parts_send, tt)))

reply_send : IsSend Reply.the_row
reply_send = variants_send Reply.enum (
  (search known depth 60, tt),
  (
    tt,
    (
      (search (order_send, known) depth 60, tt),
      (
        (search known depth 60, tt),
        (
          (search (stitch_order_send, known) depth 60, tt),
          ((search known depth 60, tt), ((search known depth 60, tt), ((search known depth 60, tt), ((search known depth 60, tt), tt)))),
        ),
      ),
    ),
  ),
)

mutation_send : IsSend Mutation.the_row
mutation_send = search known depth 60 fits 5000

input_send : IsSend Input.the_row
input_send = variants_send Input.enum ((search known depth 60, (mutation_send, tt)), ((search known depth 60, (search known depth 60, tt)), ((search known depth 60, tt), ((search known depth 60, tt), ((search known depth 60, tt), ((search known depth 60, tt), tt))))))

noted_send : IsSend Noted.the_row
noted_send = variants_send Noted.enum (
  (input_send, (reply_send, tt)),
  (
    (search known depth 60, tt),
    (
      (search known depth 60, (search known depth 60, (search known depth 60, tt))),
      ((search known depth 60, (search known depth 60, tt)), ((search known depth 60, tt), ((search known depth 60, (search known depth 60, tt)), (tt, ((search known depth 60, (search known depth 60, tt)), tt))))),
    ),
  ),
)

entry_send : IsSend Entry.the_row
entry_send = declared_send Entry.the_type (search known depth 60, (noted_send, tt))

-- ---- catalogues

ledger_send : IsSend Ledger.the_row
ledger_send = declared_send Ledger.the_type (search known depth 60, (state_send, tt))

held_send : IsSend Held.the_row
held_send = declared_send Held.the_type (state_send, (search (links_send, known) depth 20, tt))

module _ (L : RattleType) (layers : Layers.Ghosts L.Denot) (l : IsSend L) where
  pub catalogue_send : IsSend (Catalogue.the_row L layers)
  catalogue_send = view_send _ _ _ _ _ (declared_send (within.the_type L layers) (search (l, known) depth 60, (ledger_send, (search (links_send, known) depth 20, tt))))

  pub saved_send : IsSend (Saved.the_row L layers)
  saved_send = view_send _ _ _ _ _ (declared_send (saved.the_type L layers) (Box-send Held.the_row held_send, (search (l, known) depth 20, tt)))

  module _ (C : RattleType) (c : IsSend C) where
    timed_send : IsSend (Timed.the_row L C layers)
    timed_send = declared_send (Timed.the_type L C layers) (catalogue_send, (search (c, known) depth 60, tt))

    pub fed_send : IsSend (Fed.the_row L C layers)
    fed_send = declared_send (Fed.the_type L C layers) (timed_send, (search (Map-send, Map-sync, known) depth 60, tt))

-- ---- books and their shares

module _ (L B N : RattleType) (layers : Layers.Ghosts L.Denot) (timed : TimedDesk.Ghosts B.Denot L.Denot) (named : Named.Ghosts N.Denot) where
  pub book_send : IsSend L → IsSend B → IsSend N → IsSend (Book.the_row L B N layers timed named)
  book_send l d n = declared_send (Book.the_type L B N layers timed named) (search (d, known) depth 20, (History-send Entry.the_row entry_send, (search (l, known) depth 60, (search (n, known) depth 60, tt))))

  module _ (a : NamedLft) (R : RattleType) where
    pub shared_send : IsSend (Book.the_row L B N layers timed named) → IsSync R → IsSend (SharedDesk.the_row a L B N R layers timed named)
    shared_send b r = declared_send (SharedDesk.the_type a L B N R layers timed named) (
      search (r, known) depth 20,
      (
        shr_send _ _ (Turns.the_row (Book.the_row L B N layers timed named) Entry.the_row (tells.ghosts L B N layers tells.no_dict timed tells.no_dict named tells.no_dict)) (turns_sync (Book.the_row L B N layers timed named) Entry.the_row (tells.ghosts L B N layers tells.no_dict timed tells.no_dict named tells.no_dict) b),
        (pass_send (Book.the_row L B N layers timed named) Entry.the_row (tells.ghosts L B N layers tells.no_dict timed tells.no_dict named tells.no_dict) b, tt),
      ),
    )
