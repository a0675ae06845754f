-- Turns may be seen by several threads, and a pass may go to another one, where the value may.
use denote.Builtin.{unit, u64}
use denote.Hole.{as_row}
use denote.Param.Send.{IsSend, IsSync, sendable, view_send, view_sync}
use denote.Param.SendFields.{declared_send, declared_sync}
use denote.RattleType.{RattleType}
use denote.Struct.Field.{u64-field, usize-field}
use Rattle.std.proofs.Crossing as heap
use Rattle.std.specs.contracts.alloc.Global as Global
use Rattle.std.specs.contracts.impls.GlobalAllocator.TheImpl as alloc
use Rattle.atomic_table.proofs.shared.Seat.TheSendSync as seat
use Rattle.atomic_table.proofs.shared.Shared.TheSendSync as shared
use Rattle.atomic_table.proofs.send_lease.SendLease.TheSendSync as lease
use Rattle.atomic_table.specs.contracts.owned.Table as Table
use Rattle.cat_turns.specs.declared.tells.Tells as Tells
use Rattle.cat_turns.specs.contracts.law.Held as Held
use Rattle.cat_turns.specs.contracts.law.Law as Law
use Rattle.cat_turns.specs.contracts.law.View as View
use Rattle.cat_turns.specs.contracts.law.LawTableRuleHeldViewEntryUnit.TheImpl as rule
use Rattle.cat_turns.specs.contracts.turns.Turns as Turns
use Rattle.cat_turns.specs.contracts.turns.Turns.TheInside as turns
use Rattle.cat_turns.specs.contracts.turns.Pass as Pass
use Rattle.cat_turns.specs.contracts.turns.Pass.TheInside as pass

u64_send : IsSend (as_row u64-field)
u64_send = search sendable depth 20

u64_sync : IsSync (as_row u64-field)
u64_sync = search sendable depth 20

usize_sync : IsSync (as_row usize-field)
usize_sync = search sendable depth 20

u64_row_send : IsSend u64
u64_row_send = search sendable depth 20

module _ (V E : RattleType) (g : Tells.Ghosts V.Denot E.Denot) (v : IsSend V) where
  held_send : IsSend (Held.the_row V)
  held_send = declared_send (Held.the_type V) (search (v, sendable) depth 20, (u64_send, (u64_send, tt)))

  table_sync : IsSync (Table.the_row (Held.the_row V) (View.the_row E) unit (Law.the_row V) Global.the_row (rule.ghosts V E g rule.no_dict) alloc.ghosts)
  table_sync = declared_sync (Table.the_type (Held.the_row V) (View.the_row E) unit (Law.the_row V) Global.the_row (rule.ghosts V E g rule.no_dict) alloc.ghosts) (
    shared.the_sync (Held.the_row V) (View.the_row E) unit (Law.the_row V) (rule.ghosts V E g rule.no_dict) held_send,
    (
      usize_sync,
      (
        usize_sync,
        (lease.the_sync u64 Global.the_row alloc.ghosts heap.send heap.frees, (lease.the_sync (Held.the_row V) Global.the_row alloc.ghosts heap.send heap.frees, (heap.sync, tt))),
      ),
    ),
  )

  pub turns_sync : IsSync (Turns.the_row V E g)
  turns_sync = view_sync _ _ _ _ _ (declared_sync (turns.the_type V E g) (table_sync, (u64_sync, tt)))

  pub pass_send : IsSend (Pass.the_row V E g)
  pass_send = view_send _ _ _ _ _ (declared_send (pass.the_type V E g) (seat.the_send (Held.the_row V) (View.the_row E) held_send, (u64_send, tt)))
