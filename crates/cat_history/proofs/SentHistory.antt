-- A history may go to another thread, where its entries may.
use denote.Hole.{as_row}
use denote.Param.Send.{IsSend, sendable}
use denote.Param.SendFields.{declared_send}
use denote.RattleType.{RattleType}
use denote.Struct.Field.{u64-field, usize-field}
use Rattle.std.proofs.Crossing.{Deque-send}
use Rattle.cat_history.proofs.ghost_list.GhostList.TheSendSync as ghost_list
use Rattle.cat_history.specs.contracts.history.History as History
use Rattle.cat_history.specs.contracts.history.Kept as Kept
use Rattle.cat_history.specs.contracts.history.Limits as Limits

u64_send : IsSend (as_row u64-field)
u64_send = search sendable depth 20

usize_send : IsSend (as_row usize-field)
usize_send = search sendable depth 20

limits_send : IsSend Limits.the_row
limits_send = declared_send Limits.the_type (usize_send, (u64_send, tt))

module _ (E : RattleType) (e : IsSend E) where
  kept_send : IsSend (Kept.the_row E)
  kept_send = declared_send (Kept.the_type E) (search (e, sendable) depth 20, (u64_send, tt))

  pub History-send : IsSend (History.the_row E)
  History-send = declared_send (History.the_type E) (Deque-send (Kept.the_row E) kept_send, (u64_send, (u64_send, (limits_send, (ghost_list.the_send E e, tt)))))
