-- A session: what a line does to the catalogue, and the reply to it.
use Rattle.std.specs.Prelude.{ℕ, nat_eq, cond, List, [], ◌∷◌, ◌++◌}
use Rattle.std.specs.declared.option.Option.{Option}
use Rattle.std.specs.declared.option.Option.TheVariants.{None, Some}
use Rattle.std.specs.declared.result.Result.{Result}
use Rattle.std.specs.declared.result.Result.TheVariants.{Ok, Err}
use Rattle.std.specs.Ordering.{nat_cmp}
use Rattle.cat_collections.specs.Table.{find, put}
use Rattle.cat_session_model.specs.declared.state.SessionState.{SessionState}
use Rattle.cat_io.specs.Word.{Word, plain, memory, cut, unkept, cut_unkept}
use Rattle.cat_session_lines.specs.Lines.{line_of}
use Rattle.cat_session_lines.specs.declared.line.Line.{Line}
use Rattle.cat_session_lines.specs.declared.line.Line.TheVariants as asks
use Rattle.cat_session_lines.specs.declared.fault.LineFault.{LineFault}
use Rattle.cat_session_lines.specs.declared.fault.LineFault.TheVariants.{LongLine, BadWord, BadArguments, Input, Reference, Query, NoMemory}
use Rattle.cat_model.specs.Catalogue.{Rules}
use Rattle.cat_model.specs.declared.types.State.{State}
use Rattle.cat_model.specs.declared.types.Settings.{Settings}
use Rattle.cat_model.specs.declared.types.Order.{Order}
use Rattle.cat_model.specs.declared.types.StitchOrder.{StitchOrder}
use Rattle.cat_model.specs.declared.types.Fault.{Fault}
use Rattle.cat_model.specs.declared.types.Progress.{Progress}
use Rattle.cat_model.specs.declared.types.Stop.{Stop}
use Rattle.cat_model.specs.Given.{given}
use Rattle.cat_model.specs.Step.{Event, refusal, step}
use Rattle.cat_model.specs.Step.Event.{Mutate, ShelfPut, ShelfDrop, Refresh, Forget, Take, Finish, PutStitch}
use Rattle.cat_model.specs.Settle.{try_settle}
use Rattle.cat_model.specs.declared.types.Stop.TheVariants.{Refused, Limit}
use Rattle.cat_model.specs.declared.types.Fault.TheVariants.{OldSerial, NotFound, TooLarge, Spent}
use Rattle.cat_model.specs.Reply as model
use Rattle.cat_replies.specs.Asks.{answered, ask_text}
use Rattle.cat_replies.specs.Events as say
use Rattle.cat_replies.specs.Faults as faults

-- ---- what a line does

-- the catalogue has this state, and all else of the session stays
abbrev pub with_state : State → SessionState → SessionState
with_state n m = record m { state = n }

-- an event of the catalogue
abbrev pub after_event : Rules → Settings → Event → SessionState → SessionState
after_event rules s e m = with_state (step rules s e m.state) m

-- the first of the orders with this token
abbrev pub order_numbered : ℕ → List Order → Option Order
order_numbered token [] = None
order_numbered token (x ∷ xs) = cond (nat_eq x.token token) (Some x) (order_numbered token xs)

-- an order is kept after those that were handed out before
abbrev pub add_order : Option Order → List Order → List Order
add_order None xs = xs
add_order (Some x) xs = xs ++ x ∷ []

-- the order that a take gives where it isn't refused
abbrev pub unless_refused : Option Fault → Option Order → Option Order
unless_refused None order = order
unless_refused (Some fault) order = None

-- the order that a take gives at the moment of the session
abbrev pub order_given : Rules → Settings → SessionState → Option Order
order_given rules s m = unless_refused (refusal rules s (Take m.now) m.state) (model.taken rules s m.now m.state)

-- the session after a take: its order is kept
abbrev pub after_take : Rules → Settings → SessionState → SessionState
after_take rules s m = record (after_event rules s (Take m.now) m) { orders = add_order (order_given rules s m) m.orders }

-- the session after the result of an order that was handed out, if one was
abbrev pub after_finish : Rules → Settings → Option Order → SessionState → SessionState
after_finish rules s None m = m
after_finish rules s (Some x) m = after_event rules s (Finish x m.now) m

-- a stitch order is kept under its ticket
abbrev pub with_stitch : Option StitchOrder → SessionState → SessionState
with_stitch None m = m
with_stitch (Some x) m = record m { stitches = put nat_cmp x.ticket x m.stitches }

-- the session after the document of a stitch order that was handed out, if one was
abbrev pub after_place : Rules → Settings → Option StitchOrder → SessionState → SessionState
after_place rules s None m = m
after_place rules s (Some x) m = after_event rules s (PutStitch x) m

-- a settle has no limit, but where it was cut for want of memory; a session that keeps nothing takes a line whose change wasn't kept as one that acts
abbrev pub limit_of : Word → Option ℕ
limit_of plain = None
limit_of memory = None
limit_of (cut n) = Some n
limit_of unkept = None
limit_of (cut_unkept n) = None

-- how far the settle of a line comes, by the word of the line
abbrev pub settled : Rules → Settings → Word → SessionState → Progress
settled rules s word m = try_settle rules s m.now (limit_of word) m.state

-- a question changes nothing
abbrev pub after_reading : Rules → Settings → Word → Line → SessionState → SessionState
after_reading rules s word (asks.Mutate provider mutation) m = after_event rules s (Mutate provider (given provider mutation)) m
after_reading rules s word (asks.ShelfPut name text) m = after_event rules s (ShelfPut name text) m
after_reading rules s word (asks.ShelfDrop name) m = after_event rules s (ShelfDrop name) m
after_reading rules s word (asks.Refresh r) m = after_event rules s (Refresh r) m
after_reading rules s word (asks.Forget r) m = after_event rules s (Forget r) m
after_reading rules s word (asks.Clock now) m = record m { now = now }
after_reading rules s word asks.Take m = after_take rules s m
after_reading rules s word (asks.Finish token) m = after_finish rules s (order_numbered token m.orders) m
after_reading rules s word (asks.Stitch after) m = with_stitch (model.next_stitch rules m.state after) m
after_reading rules s word (asks.Place ticket) m = after_place rules s (find nat_cmp ticket m.stitches) m
after_reading rules s word asks.Settle m = with_state (settled rules s word m).state m
after_reading rules s word (asks.Ask ask) m = m

-- a line without a reading changes nothing
abbrev pub after_result : Rules → Settings → Word → Result Line LineFault → SessionState → SessionState
after_result rules s word (Ok line) m = after_reading rules s word line m
after_result rules s word (Err fault) m = m

-- the session after a line: what has no reading changes nothing
unfoldable pub session_after : Rules → Settings → SessionState → Word → List ℕ → SessionState
session_after rules s m word line = after_result rules s word (line_of line) m

-- ---- the reply to a line

-- a refusal, or the reply to what isn't refused
abbrev pub or_refused : Option Fault → List ℕ → List ℕ
or_refused None reply = reply
or_refused (Some fault) reply = say.refused fault

-- the reply to an event: its refusal, or this
abbrev pub event_reply : Rules → Settings → Event → SessionState → List ℕ → List ℕ
event_reply rules s e m reply = or_refused (refusal rules s e m.state) reply

-- the reply to a take: the order, or that nothing is due
abbrev pub order_reply : Option Order → List ℕ
order_reply None = say.nothing
order_reply (Some x) = say.ordered x.token x.reference

-- an order that was handed out is processed anew
abbrev pub finish_reply : Rules → Settings → Option Order → SessionState → List ℕ
finish_reply rules s None m = say.unknown
finish_reply rules s (Some x) m = event_reply rules s (Finish x m.now) m (say.finished (model.finished rules x m.state))

-- the reply to a take of a mark: its ticket, or that there is none
abbrev pub ticket_reply : Option StitchOrder → List ℕ
ticket_reply None = say.nothing
ticket_reply (Some x) = say.ticketed x.ticket x.reference

-- the reply to a document that comes back, by the stitch order that was handed out
abbrev pub place_reply : Rules → Settings → Option StitchOrder → SessionState → List ℕ
place_reply rules s None m = say.unknown
place_reply rules s (Some x) m = event_reply rules s (PutStitch x) m (say.placed (model.placed rules x m.state))

-- a settle is refused only where a counter is spent
abbrev pub cut_reply : ℕ → Fault → List ℕ
cut_reply events (Spent counter) = say.cut_by_counter events counter
cut_reply events (OldSerial last) = say.cut_by_memory events
cut_reply events NotFound = say.cut_by_memory events
cut_reply events (TooLarge sum) = say.cut_by_memory events

-- the reply to a settle, by why it stopped
abbrev pub stop_reply : Progress → Option Stop → List ℕ
stop_reply p None = say.settled (model.counts p)
stop_reply p (Some (Refused fault)) = cut_reply p.events fault
stop_reply p (Some Limit) = say.cut_by_memory p.events

-- a settle that was cut for want of memory says how many events stand, and another one how it ended
abbrev pub settle_reply : Word → Progress → List ℕ
settle_reply plain p = stop_reply p p.stop
settle_reply memory p = stop_reply p p.stop
settle_reply (cut n) p = say.cut_by_memory p.events
settle_reply unkept p = stop_reply p p.stop
settle_reply (cut_unkept n) p = stop_reply p p.stop

-- the reply to a line that has a reading
abbrev pub reply_to : Rules → Settings → Word → Line → SessionState → List ℕ
reply_to rules s word (asks.Mutate provider mutation) m = event_reply rules s (Mutate provider (given provider mutation)) m (say.acted (model.acted provider (given provider mutation) m.state))
reply_to rules s word (asks.ShelfPut name text) m = event_reply rules s (ShelfPut name text) m say.changed
reply_to rules s word (asks.ShelfDrop name) m = event_reply rules s (ShelfDrop name) m say.changed
reply_to rules s word (asks.Refresh r) m = event_reply rules s (Refresh r) m say.changed
reply_to rules s word (asks.Forget r) m = event_reply rules s (Forget r) m say.changed
reply_to rules s word (asks.Clock now) m = say.changed
reply_to rules s word asks.Take m = event_reply rules s (Take m.now) m (order_reply (model.taken rules s m.now m.state))
reply_to rules s word (asks.Finish token) m = finish_reply rules s (order_numbered token m.orders) m
reply_to rules s word (asks.Stitch after) m = ticket_reply (model.next_stitch rules m.state after)
reply_to rules s word (asks.Place ticket) m = place_reply rules s (find nat_cmp ticket m.stitches) m
reply_to rules s word asks.Settle m = settle_reply word (settled rules s word m)
reply_to rules s word (asks.Ask ask) m = answered (ask_text ask m.now m.state)

-- the reply to a line that is no command
abbrev pub line_fault : LineFault → List ℕ
line_fault LongLine = faults.long_line
line_fault BadWord = faults.bad_word
line_fault BadArguments = faults.bad_arguments
line_fault (Input fault) = faults.no_mutation fault
line_fault (Reference place) = faults.no_reference place
line_fault (Query fault) = faults.no_query fault
line_fault NoMemory = say.no_memory

-- the reply to a line, or to one without a reading
abbrev pub reply_to_result : Rules → Settings → Word → Result Line LineFault → SessionState → List ℕ
reply_to_result rules s word (Ok line) m = reply_to rules s word line m
reply_to_result rules s word (Err fault) m = line_fault fault

-- the reply to a line, its LF at the end
unfoldable pub session_reply : Rules → Settings → SessionState → Word → List ℕ → List ℕ
session_reply rules s m word line = reply_to_result rules s word (line_of line) m
