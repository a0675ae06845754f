-- What a message does to a catalogue that is kept and to its feed at the moment 0, and the bytes of the reply.
use Rattle.std.specs.Prelude.{ℕ, List, Bool, false, not, ◌&&◌, if◌then◌else◌}
use Rattle.std.specs.declared.option.Option.TheVariants.{Some}
use Rattle.std.specs.declared.result.Result.{Result}
use Rattle.std.specs.declared.result.Result.TheVariants.{Ok, Err}
use Rattle.cat_api.specs.Operations.{Operation, operation}
use Rattle.cat_api.specs.Operations.Operation.{Act, Ask, Tell, Show}
use Rattle.cat_api.specs.Wire.{Wired, wire_after, wire_reply}
use Rattle.cat_http.specs.Reply.{reply_bytes}
use Rattle.cat_http.specs.declared.message.Message.{Message}
use Rattle.cat_keeper.specs.declared.keeper.Place.{Place}
use Rattle.cat_desk.specs.Kept.{is_settle, leaves_rows, one_more}
use Rattle.cat_model.specs.Catalogue.{Rules}
use Rattle.cat_model.specs.Settle.{try_settle}
use Rattle.cat_model.specs.declared.types.State.{State}
use Rattle.cat_requests.specs.Answers.{reply_to}
use Rattle.cat_requests.specs.Requests.{request_of}
use Rattle.cat_requests.specs.declared.answer.Answer.TheVariants.{Refused}
use Rattle.cat_requests.specs.declared.refusal.Refusal.{Refusal}
use Rattle.cat_requests.specs.declared.refusal.Refusal.TheVariants.{CutByKeeper, Keeper}
use Rattle.cat_requests.specs.declared.request.Request.{Request}
use Rattle.cat_connection.specs.Worded.{plain, memory, cut, untold, unkept, cut_unkept, After, Reply}

-- a catalogue and its feed, the place of the store that keeps the catalogue, and how many messages weren't kept, where the count stays at the
-- last value of a u64
pub record KeptWired : Type 0 where
  pub wired : Wired
  pub place : Place
  pub refusals : ℕ

-- whether an operation is refused as a whole where its change isn't kept: it may change the stored rows of a state, and is no settle
abbrev pub is_single : Operation → State → Bool
is_single (Act d k) m = not (leaves_rows d m) && not (is_settle d)
is_single (Ask q) m = false
is_single (Tell since) m = false
is_single (Show file) m = false

-- the same of what was read of a message
abbrev pub may_be_refused : Result Request Refusal → State → Bool
may_be_refused (Ok request) m = is_single (operation request) m
may_be_refused (Err refusal) m = false

-- whether an operation is a settle, of which the first event may be kept and the others not
abbrev pub settles : Operation → Bool
settles (Act d k) = is_settle d
settles (Ask q) = false
settles (Tell since) = false
settles (Show file) = false

-- the same of what was read of a message
abbrev pub may_be_cut : Result Request Refusal → Bool
may_be_cut (Ok request) = settles (operation request)
may_be_cut (Err refusal) = false

-- one more message wasn't kept, or not all of it
abbrev pub one_refused : Wired → KeptWired → KeptWired
one_refused wired m = record m { wired = wired; refusals = one_more m.refusals }

-- the catalogue after a message: one that wasn't kept, which may change the stored rows and is no settle, is counted and leaves it as it was; of a settle
-- that was cut since what follows its first event wasn't kept, which is counted too, just this event stands, whatever number the word has; and any other
-- does what it does to a catalogue that isn't kept
abbrev pub kept_wire_after : Rules → After KeptWired
kept_wire_after rules m plain message = record m { wired = wire_after rules m.wired plain message }
kept_wire_after rules m memory message = record m { wired = wire_after rules m.wired memory message }
kept_wire_after rules m (cut n) message = record m { wired = wire_after rules m.wired (cut n) message }
kept_wire_after rules m untold message = record m { wired = wire_after rules m.wired untold message }
kept_wire_after rules m unkept message =
    if may_be_refused (request_of message) m.wired.catalogue.state then one_refused m.wired m else record m { wired = wire_after rules m.wired plain message }
kept_wire_after rules m (cut_unkept n) message =
    if may_be_cut (request_of message) then one_refused (wire_after rules m.wired (cut 1) message) m else record m { wired = wire_after rules m.wired plain message }

-- the bytes of the reply to a message whose change wasn't kept: the status 503
abbrev pub unkept_reply : Message → List ℕ
unkept_reply message = reply_bytes (reply_to message (Refused Keeper))

-- the bytes of the reply to a settle of which just so many events were kept: the same status
abbrev pub cut_reply : Message → ℕ → List ℕ
cut_reply message events = reply_bytes (reply_to message (Refused (CutByKeeper events)))

-- how many events stand of a settle of which just the first was kept: one, or none where it has none
abbrev pub settle_events : Rules → Wired → ℕ
settle_events rules w = (try_settle rules w.catalogue.settings 0 (Some 1) w.catalogue.state).events

-- the bytes of the reply to a message; a settle of which just the first event was kept is answered by its number, whatever number the word has
abbrev pub kept_wire_reply : Rules → Reply KeptWired
kept_wire_reply rules m plain message = wire_reply rules m.wired plain message
kept_wire_reply rules m memory message = wire_reply rules m.wired memory message
kept_wire_reply rules m (cut n) message = wire_reply rules m.wired (cut n) message
kept_wire_reply rules m untold message = wire_reply rules m.wired untold message
kept_wire_reply rules m unkept message = if may_be_refused (request_of message) m.wired.catalogue.state then unkept_reply message else wire_reply rules m.wired plain message
kept_wire_reply rules m (cut_unkept n) message = if may_be_cut (request_of message) then cut_reply message (settle_events rules m.wired) else wire_reply rules m.wired plain message
