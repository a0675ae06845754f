-- A ghost list holds nothing but a mark, so it may go to another thread.
use denote.Param.Send.{IsSend, owning_send, sendable}
use denote.RattleType.{RattleType}
use Rattle.cat_history.specs.contracts.ghost_list.GhostList.{the_row, the_type}

pub send : (E : RattleType) → IsSend E → IsSend (the_row E)
send E e = owning_send (the_type E) (search sendable, tt) (λ list. tt) (λ exit x bounds. tt)
