use Rattle.cat_listener.proofs.Turns.{turn_asked, turn_read}
use Rattle.cat_listener.proofs.turn.go_on.Goals as goal

pub returns-then-is_none : goal.returns-then-is_none
returns-then-is_none g c = record { turned = λ written. turn_asked g.S.Server.answers _ _ _ _ _ written c.requires.taken c.requires.open c.ask.ensures.asked }

pub returns-in-Bytes : goal.returns-in-Bytes
returns-in-Bytes g c = record { turned = λ written. turn_read g.S.Server.answers _ _ _ _ _ written c.in-Bytes.ensures.read }

pub returns-in-Later : goal.returns-in-Later
returns-in-Later g c = record { turned = λ written. turn_read g.S.Server.answers _ _ _ _ _ written c.in-Later.ensures.read }

pub returns-in-Ended : goal.returns-in-Ended
returns-in-Ended g c = record { turned = λ written. turn_read g.S.Server.answers _ _ _ _ _ written c.in-Ended.ensures.read }
