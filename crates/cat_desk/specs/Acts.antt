-- What a deed does to a catalogue at a moment, and what is answered.
use Rattle.std.specs.Prelude.{◌≡◌, ◌≤◌, ℕ, ⊤}
use Rattle.std.specs.declared.option.Option.{Option}
use Rattle.std.specs.declared.option.Option.TheVariants.{None, Some}
use Rattle.std.specs.declared.result.Result.{Result}
use Rattle.std.specs.declared.result.Result.TheVariants.{Ok, Err}
use Rattle.cat_core.specs.Answer.{core_fault, stop_answer}
use Rattle.cat_core.specs.declared.fault.CoreFault.{CoreFault}
use Rattle.cat_core.specs.declared.fault.CoreFault.TheVariants.{NoMemory}
use Rattle.cat_core.specs.declared.fault.Cut.{Cut as CutSettle}
use Rattle.cat_core.specs.declared.ledger.Ledger.{Ledger}
use Rattle.cat_desk.specs.Deed.{Deed}
use Rattle.cat_desk.specs.Deed.Deed.{Mutate, ShelfPut, ShelfDrop, Refresh, Forget, ForgetNumber, Take, Finish, TakeStitch, PutStitch, Settle}
use Rattle.cat_desk.specs.declared.command.Reply.{Reply}
use Rattle.cat_desk.specs.declared.command.Reply.TheVariants as replies
use Rattle.cat_io.specs.Clock.{CountsReading}
use Rattle.cat_collections.specs.Table.{get}
use Rattle.cat_io.specs.Word.{Word, plain, memory, cut, unkept, cut_unkept}
use Rattle.cat_model.specs.Catalogue.{Rules}
use Rattle.cat_model.specs.Reply.{acted, finished, next_stitch, placed, taken}
use Rattle.cat_model.specs.Settle.{try_settle}
use Rattle.cat_model.specs.Sound.{its_number}
use Rattle.cat_model.specs.Step.{Event, ref_at, refusal, source_at, step}
use Rattle.cat_model.specs.Step.Event.{Mutate as Mutated, ShelfPut as PutOnShelf, ShelfDrop as DroppedFromShelf, Refresh as Refreshed, Forget as Forgotten, ForgetNumber as NumberForgotten, Take as Taken, Finish as Finished, PutStitch as StitchPut}
use Rattle.cat_model.specs.declared.types.Counts.{Counts}
use Rattle.cat_model.specs.declared.types.Fault.{Fault}
use Rattle.cat_model.specs.declared.types.Progress.{Progress}
use Rattle.cat_model.specs.declared.types.Settings.{Settings}
use Rattle.cat_model.specs.declared.types.State.{State}

-- ---- what a deed does

-- The state after a deed, where a settle has a limit on its events, or none.
abbrev pub done : Rules → Settings → ℕ → Option ℕ → Deed → State → State
done rules s now limit (Mutate provider x) m = step rules s (Mutated provider x) m
done rules s now limit (ShelfPut name text) m = step rules s (PutOnShelf name text) m
done rules s now limit (ShelfDrop name) m = step rules s (DroppedFromShelf name) m
done rules s now limit (Refresh r) m = step rules s (Refreshed r) m
done rules s now limit (Forget r) m = step rules s (Forgotten r) m
done rules s now limit (ForgetNumber number) m = step rules s (NumberForgotten number) m
done rules s now limit Take m = step rules s (Taken now) m
done rules s now limit (Finish order) m = step rules s (Finished order now) m
done rules s now limit (TakeStitch after) m = m
done rules s now limit (PutStitch order) m = step rules s (StitchPut order) m
done rules s now limit Settle m = (try_settle rules s now limit m).state

-- The state after a deed, by its word: it stays for want of memory, and of a settle that was cut just the first events stand. A catalogue
-- refuses nothing that it would keep, so any other word says that the deed was done.
abbrev pub after_deed : Rules → Settings → ℕ → Word → Deed → State → State
after_deed rules s now plain d m = done rules s now None d m
after_deed rules s now memory d m = m
after_deed rules s now (cut n) d m = done rules s now (Some n) d m
after_deed rules s now unkept d m = done rules s now None d m
after_deed rules s now (cut_unkept n) d m = done rules s now None d m

-- ---- what is answered

-- a refusal, or the reply to what isn't refused
abbrev pub or_refused : Option Fault → Reply → Reply
or_refused None reply = reply
or_refused (Some fault) reply = replies.Refused (core_fault fault)

-- what a call answered, as the reply of a desk
abbrev pub reply_as : {A : Type 0} → (A → Reply) → Result A CoreFault → Reply
reply_as reply (Ok x) = reply x
reply_as reply (Err fault) = replies.Refused fault

-- the reply to an event, given that to one that isn't refused
abbrev pub event_reply : Rules → Settings → Event → State → Reply → Reply
event_reply rules s e m reply = or_refused (refusal rules s e m) reply

-- what a settle counted, or why and where it was cut
abbrev pub settled_as : Result Counts CutSettle → Reply
settled_as (Ok counts) = replies.Settled counts
settled_as (Err short) = replies.Cut short

-- A settle that was cut for want of memory says how many events stand, and another one how it ended.
abbrev pub settle_reply : Option ℕ → Progress → Reply
settle_reply None p = settled_as (stop_answer p p.stop)
settle_reply (Some n) p = replies.Cut (record { events = p.events; fault = NoMemory })

-- The reply to a deed, where a settle has a limit on its events, or none.
abbrev pub answered : Rules → Settings → ℕ → Option ℕ → Deed → State → Reply
answered rules s now limit (Mutate provider x) m = event_reply rules s (Mutated provider x) m (replies.Mutated (acted provider x m))
answered rules s now limit (ShelfPut name text) m = event_reply rules s (PutOnShelf name text) m replies.Changed
answered rules s now limit (ShelfDrop name) m = event_reply rules s (DroppedFromShelf name) m replies.Changed
answered rules s now limit (Refresh r) m = event_reply rules s (Refreshed r) m replies.Changed
answered rules s now limit (Forget r) m = event_reply rules s (Forgotten r) m replies.Changed
answered rules s now limit (ForgetNumber number) m = event_reply rules s (NumberForgotten number) m replies.Changed
answered rules s now limit Take m = event_reply rules s (Taken now) m (replies.Taken (taken rules s now m))
answered rules s now limit (Finish order) m = event_reply rules s (Finished order now) m (replies.Finished (finished rules order m))
answered rules s now limit (TakeStitch after) m = replies.StitchTaken (next_stitch rules m after)
answered rules s now limit (PutStitch order) m = event_reply rules s (StitchPut order) m (replies.Placed (placed rules order m))
answered rules s now limit Settle m = settle_reply limit (try_settle rules s now limit m)

-- The reply to a deed, by its word.
abbrev pub deed_reply : Rules → Settings → ℕ → Word → Deed → State → Reply
deed_reply rules s now plain d m = answered rules s now None d m
deed_reply rules s now memory d m = replies.Refused NoMemory
deed_reply rules s now (cut n) d m = answered rules s now (Some n) d m
deed_reply rules s now unkept d m = answered rules s now None d m
deed_reply rules s now (cut_unkept n) d m = answered rules s now None d m

-- ---- what takes no memory

-- What is done or refused without memory, so that it never lacks it: a mutation with the last serial or a lower one, a refresh, and
-- what names a text, a reference or a number that isn't there.
abbrev pub NeedsNone : Deed → State → Type 0
NeedsNone (Mutate provider x) m = x.serial ≤ (source_at (get m.providers provider)).serial
NeedsNone (ShelfPut name text) m = ⊥
NeedsNone (ShelfDrop name) m = get m.shelf name ≡ None
NeedsNone (Refresh r) m = ⊤
NeedsNone (Forget r) m = its_number m r ≡ None
NeedsNone (ForgetNumber number) m = ref_at m number ≡ None
NeedsNone Take m = ⊥
NeedsNone (Finish order) m = ⊥
NeedsNone (TakeStitch after) m = ⊥
NeedsNone (PutStitch order) m = ⊥
NeedsNone Settle m = ⊥

-- ---- what a catalogue does

-- Where a word cuts a deed short, the deed is a settle that has just as many events.
abbrev pub IsExact : Rules → Settings → ℕ → State → Deed → Word → Type 0
IsExact rules s now m d plain = ⊤
IsExact rules s now m d memory = ⊤
IsExact rules s now m d (cut n) = (d ≡ Settle) × ((try_settle rules s now (Some n) m).events ≡ n)
IsExact rules s now m d unkept = ⊤
IsExact rules s now m d (cut_unkept n) = ⊤

-- A deed was done to a catalogue at this moment, or lacked memory where it takes any, and this is the reply.
pub record Acts (rules : Rules) (now : ℕ) (d : Deed) (old new : Ledger) (reply : Reply) : Type 0 where
  pub word : Word
  pub state : new.state ≡ after_deed rules old.settings now word d old.state
  pub settings : new.settings ≡ old.settings
  pub answer : reply ≡ deed_reply rules old.settings now word d old.state
  pub spare : NeedsNone d old.state → word ≡ plain
  pub exact : IsExact rules old.settings now old.state d word

-- The same at the moment that a clock gave last, which was read once for it.
pub record ActsOnce (rules : Rules) (now readings readings' : ℕ) (d : Deed) (old new : Ledger) (reply : Reply) : Type 0 where
  pub acts : Acts rules now d old new reply
  pub reads : CountsReading readings readings'
