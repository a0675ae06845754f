-- What a call of the catalogue answers.
use Rattle.std.specs.Prelude.{◌≡◌, ⊤, ℕ, IfOk, IfErr}
use Rattle.std.specs.declared.option.Option.{Option}
use Rattle.std.specs.declared.option.Option.TheVariants.{None, Some}
use Rattle.std.specs.declared.result.Result.{Result}
use Rattle.std.specs.declared.result.Result.TheVariants.{Ok, Err}
use Rattle.cat_model.specs.declared.types.Fault.{Fault}
use Rattle.cat_model.specs.declared.types.Fault.TheVariants.{OldSerial as ModelOldSerial, NotFound as ModelNotFound, TooLarge as ModelTooLarge, Spent as ModelSpent}
use Rattle.cat_model.specs.declared.types.Settings.{Settings}
use Rattle.cat_model.specs.declared.types.State.{State}
use Rattle.cat_model.specs.declared.types.Stop.{Stop}
use Rattle.cat_model.specs.declared.types.Stop.TheVariants.{Refused as StopRefused, Limit}
use Rattle.cat_model.specs.declared.types.Progress.{Progress}
use Rattle.cat_model.specs.declared.types.Counts.{Counts}
use Rattle.cat_model.specs.Catalogue.{Ref, Rules, Work, work}
use Rattle.cat_model.specs.Reply.{counts}
use Rattle.cat_collections.specs.Table.{get}
use Rattle.cat_model.specs.declared.types.Order.{Order}
use Rattle.cat_model.specs.declared.types.Record.{Record}
use Rattle.cat_model.specs.Settle.{try_settle}
use Rattle.cat_model.specs.Sound.{Quiet}
use Rattle.cat_core.specs.declared.fault.CoreFault.{CoreFault}
use Rattle.cat_core.specs.declared.fault.CoreFault.TheVariants.{OldSerial, NotFound, TooLarge, Spent, Keeper, NoMemory}
use Rattle.cat_core.specs.declared.fault.Cut.{Cut}

-- a refusal as calls answer it
abbrev pub core_fault : Fault → CoreFault
core_fault (ModelOldSerial n) = OldSerial n
core_fault ModelNotFound = NotFound
core_fault (ModelTooLarge n) = TooLarge n
core_fault (ModelSpent c) = Spent c

-- what is answered to an event whose reply says nothing more
abbrev pub event_answer : {E : Type 0} → Result (Option Fault) E → Result (Unit {0}) CoreFault
event_answer (Ok None) = Ok tt
event_answer (Ok (Some fault)) = Err (core_fault fault)
event_answer (Err e) = Err NoMemory

-- the answer with the reply of a call that isn't refused
abbrev pub replied : {T : Type 0} → Result (Unit {0}) CoreFault → T → Result T CoreFault
replied (Ok x) reply = Ok reply
replied (Err fault) reply = Err fault

-- what is answered to an event that gives its reply with its refusal
abbrev pub answer_with : {T E : Type 0} → Result (Option Fault × T) E → Result T CoreFault
answer_with (Ok (None, reply)) = Ok reply
answer_with (Ok (Some fault, reply)) = Err (core_fault fault)
answer_with (Err e) = Err NoMemory

-- a refused call changes nothing
abbrev pub after : {T : Type 0} → Result T CoreFault → State → State → State
after (Ok x) old new = new
after (Err fault) old new = old

-- the fault is that of the first refusal whose condition holds, or want of memory
abbrev pub IsFault : CoreFault → Option Fault → Type 0
IsFault NoMemory refusal = ⊤
IsFault (OldSerial n) refusal = refusal ≡ Some (ModelOldSerial n)
IsFault NotFound refusal = refusal ≡ Some ModelNotFound
IsFault (TooLarge n) refusal = refusal ≡ Some (ModelTooLarge n)
IsFault (Spent c) refusal = refusal ≡ Some (ModelSpent c)
IsFault Keeper refusal = ⊥

-- the reply where nothing is refused, or the fault
abbrev pub IsReply : {T : Type 0} → Result T CoreFault → Option Fault → T → Type 0
IsReply (Ok x) refusal reply = (refusal ≡ None) × (x ≡ reply)
IsReply (Err fault) refusal reply = IsFault fault refusal

-- why a settle was cut: its next event was refused, or memory ran out
abbrev pub IsCause : CoreFault → Option Stop → Type 0
IsCause NoMemory stop = ⊤
IsCause (OldSerial n) stop = stop ≡ Some (StopRefused (ModelOldSerial n))
IsCause NotFound stop = stop ≡ Some (StopRefused ModelNotFound)
IsCause (TooLarge n) stop = stop ≡ Some (StopRefused (ModelTooLarge n))
IsCause (Spent c) stop = stop ≡ Some (StopRefused (ModelSpent c))
IsCause Keeper stop = ⊥

-- where a refusal cut it, a settle went as far as it goes
abbrev pub IsWhole : CoreFault → Progress → State → ℕ → Type 0
IsWhole NoMemory p n events = ⊤
IsWhole (OldSerial k) p n events = (p.state ≡ n) × (p.events ≡ events)
IsWhole NotFound p n events = (p.state ≡ n) × (p.events ≡ events)
IsWhole (TooLarge k) p n events = (p.state ≡ n) × (p.events ≡ events)
IsWhole (Spent c) p n events = (p.state ≡ n) × (p.events ≡ events)
IsWhole Keeper p n events = ⊥

-- of a settle of m that was cut exactly the first events stand, those that it has where its limit is as many
pub record IsCutSettle (rules : Rules) (s : Settings) (now : ℕ) (m n : State) (cut : Cut) : Type 0 where
  pub state : (try_settle rules s now (Some cut.events) m).state ≡ n
  pub events : (try_settle rules s now (Some cut.events) m).events ≡ cut.events
  pub cause : IsCause cut.fault (try_settle rules s now None m).stop
  pub whole : IsWhole cut.fault (try_settle rules s now None m) n cut.events

-- what a settle that ended so answers: its counts, or the refusal of its next event
abbrev pub stop_answer : Progress → Option Stop → Result Counts Cut
stop_answer p None = Ok (counts p)
stop_answer p (Some (StopRefused fault)) = Err (record { events = p.events; fault = core_fault fault })
stop_answer p (Some Limit) = Err (record { events = p.events; fault = NoMemory })

-- what a settle answers: its counts, or why it was cut
abbrev pub settle_answer : {A E : Type 0} → Result A E → Progress → Result Counts Cut
settle_answer (Err e) p = Err (record { events = p.events; fault = NoMemory })
settle_answer (Ok x) p = stop_answer p p.stop

-- n is the state after a settle of m, and what was answered is true of it
pub record IsSettled (rules : Rules) (s : Settings) (now : ℕ) (m : State) (reply : Result Counts Cut) (n : State) : Type 0 where
  pub state : IfOk reply (λ x. n ≡ (try_settle rules s now None m).state)
  pub counts : IfOk reply (λ x. x ≡ counts (try_settle rules s now None m))
  pub quiet : IfOk reply (λ x. Quiet n now)
  pub ended : IfOk reply (λ x. (try_settle rules s now None m).stop ≡ None)
  pub cut : IfErr reply (λ x. IsCutSettle rules s now m n x)

-- the order of a lease with this token, where there are a record and its work
abbrev pub order_for : Ref → ℕ → Option Record → Option Work → Option Order
order_for r token None w = None
order_for r token (Some x) None = None
order_for r token (Some x) (Some w) = Some (record { reference = r; token = token; work = w })

-- the order that the next lease of a reference gives
abbrev pub order_ahead : Rules → State → Ref → Option Order
order_ahead rules m r = order_for r m.token (get m.records r) (work rules m r)
