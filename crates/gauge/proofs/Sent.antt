-- A counter may go to another thread.
use denote.Builtin.{unit, u64}
use denote.Param.Send.{IsSend, IsSync, sendable, shr_send}
use denote.Param.SendFields.{declared_send}
use denote.RattleType.{RattleType}
use denote.Ref.{NamedLft}
use Rattle.cat_turns.specs.contracts.tells.U64Tells.TheImpl as tells
use Rattle.cat_turns.specs.contracts.turns.Turns as Turns
use Rattle.cat_turns.proofs.SentTurns.{turns_sync, pass_send}
use Rattle.gauge.specs.contracts.turns.Counter as Counter

u64_send : IsSend u64
u64_send = search sendable depth 20

module _ (a : NamedLft) (R : RattleType) where
  pub counter_send : IsSync R → IsSend (Counter.the_row a R)
  counter_send r = declared_send (Counter.the_type a R) (
    search (r, sendable) depth 20,
    (shr_send _ _ (Turns.the_row u64 unit tells.ghosts) (turns_sync u64 unit tells.ghosts u64_send), (pass_send u64 unit tells.ghosts u64_send, tt)),
  )
