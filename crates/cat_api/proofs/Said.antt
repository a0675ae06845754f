-- What a catalogue at the moment 0 did, where its desk said so.
use Rattle.std.proofs.Common.{◌≡◌, ℕ, true, false, refl, sym, ap, ◌∙◌}
use Rattle.std.specs.declared.option.Option.{Option}
use Rattle.std.specs.declared.option.Option.TheVariants.{None, Some}
use Rattle.cat_core.specs.Answer.{stop_answer}
use Rattle.cat_core.specs.declared.ledger.Ledger.{Ledger}
use Rattle.cat_desk.specs.Acts.{Acts, after_deed, answered, deed_reply, or_refused, settle_reply, settled_as}
use Rattle.cat_desk.specs.Deed.{Deed}
use Rattle.cat_desk.specs.Deed.Deed.{Mutate, ShelfPut, ShelfDrop, Refresh, Forget, ForgetNumber, Take, Finish, TakeStitch, PutStitch, Settle}
use Rattle.cat_desk.specs.declared.command.Reply.{Reply}
use Rattle.cat_desk.specs.declared.command.Reply.TheVariants as replies
use Rattle.cat_io.specs.Word.{Word, plain, memory, cut, unkept, cut_unkept}
use Rattle.cat_model.specs.Catalogue.{Rules}
use Rattle.cat_model.specs.Settle.{try_settle}
use Rattle.cat_model.specs.Reply.{acted, finished, placed, taken}
use Rattle.cat_model.specs.Step.{refusal}
use Rattle.cat_model.specs.Step.Event.{Mutate as Mutated, ShelfPut as PutOnShelf, ShelfDrop as DroppedFromShelf, Refresh as Refreshed, Forget as Forgotten, ForgetNumber as NumberForgotten, Take as Taken, Finish as Finished, PutStitch as StitchPut}
use Rattle.cat_model.specs.declared.types.Fault.{Fault}
use Rattle.cat_model.specs.declared.types.Fault.TheVariants as model
use Rattle.cat_model.specs.declared.types.Progress.{Progress}
use Rattle.cat_model.specs.declared.types.Settings.{Settings}
use Rattle.cat_model.specs.declared.types.State.{State}
use Rattle.cat_model.specs.declared.types.Stop.{Stop}
use Rattle.cat_model.specs.declared.types.Stop.TheVariants.{Refused as StopRefused, Limit}
use Rattle.cat_api.specs.Deeds.{lacks_memory}

-- ---- no answer says want of memory

event_tells : (r : Option Fault) (reply : Reply) → lacks_memory reply ≡ false → lacks_memory (or_refused r reply) ≡ false
event_tells None reply h = h
event_tells (Some (model.OldSerial n)) reply h = refl
event_tells (Some model.NotFound) reply h = refl
event_tells (Some (model.TooLarge n)) reply h = refl
event_tells (Some (model.Spent c)) reply h = refl

stop_tells : (p : Progress) (stop : Option Stop) → lacks_memory (settled_as (stop_answer p stop)) ≡ false
stop_tells p None = refl
stop_tells p (Some (StopRefused f)) = refl
stop_tells p (Some Limit) = refl

settle_tells : (limit : Option ℕ) (p : Progress) → lacks_memory (settle_reply limit p) ≡ false
settle_tells None p = stop_tells p p.stop
settle_tells (Some n) p = refl

module _ (rules : Rules) (s : Settings) (now : ℕ) (limit : Option ℕ) (m : State) where
  answer_tells : (d : Deed) → lacks_memory (answered rules s now limit d m) ≡ false
  answer_tells (Mutate provider x) = event_tells (refusal rules s (Mutated provider x) m) (replies.Mutated (acted provider x m)) refl
  answer_tells (ShelfPut name text) = event_tells (refusal rules s (PutOnShelf name text) m) replies.Changed refl
  answer_tells (ShelfDrop name) = event_tells (refusal rules s (DroppedFromShelf name) m) replies.Changed refl
  answer_tells (Refresh r) = event_tells (refusal rules s (Refreshed r) m) replies.Changed refl
  answer_tells (Forget r) = event_tells (refusal rules s (Forgotten r) m) replies.Changed refl
  answer_tells (ForgetNumber number) = event_tells (refusal rules s (NumberForgotten number) m) replies.Changed refl
  answer_tells Take = event_tells (refusal rules s (Taken now) m) (replies.Taken (taken rules s now m)) refl
  answer_tells (Finish order) = event_tells (refusal rules s (Finished order now) m) (replies.Finished (finished rules order m)) refl
  answer_tells (TakeStitch after) = refl
  answer_tells (PutStitch order) = event_tells (refusal rules s (StitchPut order) m) (replies.Placed (placed rules order m)) refl
  answer_tells Settle = settle_tells limit (try_settle rules s now limit m)

-- ---- what a catalogue did

-- the deed was done, whole or in part
abbrev pub IsDone : Word → Type 0
IsDone plain = Unit {0}
IsDone memory = ⊥
IsDone (cut n) = Unit {0}
IsDone unkept = Unit {0}
IsDone (cut_unkept i) = Unit {0}

-- a deed was done with such a word, and this is the reply
pub record Did (rules : Rules) (now : ℕ) (d : Deed) (old new : Ledger) (reply : Reply) : Type 0 where
  pub word : Word
  pub acts : IsDone word
  pub state : new.state ≡ after_deed rules old.settings now word d old.state
  pub settings : new.settings ≡ old.settings
  pub answer : reply ≡ deed_reply rules old.settings now word d old.state

module _ (rules : Rules) (now : ℕ) (d : Deed) (old new : Ledger) (reply : Reply) (same : new.settings ≡ old.settings) where
  did_by : (word : Word) → new.state ≡ after_deed rules old.settings now word d old.state → reply ≡ deed_reply rules old.settings now word d old.state → lacks_memory reply ≡ false → Did rules now d old new reply
  did_by plain state answer told = record { word = plain; acts = tt; state = state; settings = same; answer = answer }
  did_by memory state answer told = let e : true ≡ false = sym (ap lacks_memory answer) ∙ told in cc
  did_by (cut n) state answer told = record { word = cut n; acts = tt; state = state; settings = same; answer = answer }
  did_by unkept state answer told = record { word = unkept; acts = tt; state = state; settings = same; answer = answer }
  did_by (cut_unkept i) state answer told = record { word = (cut_unkept i); acts = tt; state = state; settings = same; answer = answer }

  stayed_by : (word : Word) → new.state ≡ after_deed rules old.settings now word d old.state → reply ≡ deed_reply rules old.settings now word d old.state → lacks_memory reply ≡ true → new.state ≡ old.state
  stayed_by plain state answer wants = let e : true ≡ false = sym wants ∙ ap lacks_memory answer ∙ answer_tells rules old.settings now None old.state d in cc
  stayed_by memory state answer wants = state
  stayed_by (cut n) state answer wants = let e : true ≡ false = sym wants ∙ ap lacks_memory answer ∙ answer_tells rules old.settings now (Some n) old.state d in cc
  stayed_by unkept state answer wants = let e : true ≡ false = sym wants ∙ ap lacks_memory answer ∙ answer_tells rules old.settings now None old.state d in cc
  stayed_by (cut_unkept i) state answer wants = let e : true ≡ false = sym wants ∙ ap lacks_memory answer ∙ answer_tells rules old.settings now None old.state d in cc

module _ (rules : Rules) (now : ℕ) (d : Deed) (old new : Ledger) (reply : Reply) where
  -- what is told was done
  pub did : Acts rules now d old new reply → lacks_memory reply ≡ false → Did rules now d old new reply
  did a told = did_by rules now d old new reply a.settings a.word a.state a.answer told

  -- where memory was wanted nothing was done
  pub stayed : Acts rules now d old new reply → lacks_memory reply ≡ true → (new.state ≡ old.state) × (new.settings ≡ old.settings)
  stayed a wants = (stayed_by rules now d old new reply a.settings a.word a.state a.answer wants, a.settings)

-- a ledger of equal parts is equal
pub ledger_is : (old new : Ledger) (state : State) → new.state ≡ state → new.settings ≡ old.settings → new ≡ record old { state = state }
ledger_is old new state e f = λ i. record { settings = f i; state = e i }
