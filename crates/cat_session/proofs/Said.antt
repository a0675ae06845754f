-- Which replies are said, and what their lines are.
use Rattle.std.proofs.Common.{◌≡◌, ℕ, List, refl, sym, ap, ◌∙◌, subst, IfOk, OnErr, Ok, Err, [], ◌++◌}
use Rattle.std.specs.declared.option.Option.{Option}
use Rattle.std.specs.declared.option.Option.TheVariants.{None, Some}
use Rattle.std.specs.declared.result.Result.{Result}
use Rattle.cat_core.specs.Answer.{core_fault, stop_answer}
use Rattle.cat_core.specs.declared.ledger.Ledger.{Ledger}
use Rattle.cat_desk.specs.Acts.{Acts, ActsOnce, after_deed, answered, deed_reply, or_refused, settle_reply, settled_as}
use Rattle.cat_desk.specs.Deed.{Deed}
use Rattle.cat_desk.specs.Deed.Deed.{Mutate, ShelfPut, ShelfDrop, Refresh, Forget, ForgetNumber, Take, Finish, TakeStitch, PutStitch, Settle}
use Rattle.cat_desk.specs.declared.command.Reply.{Reply}
use Rattle.cat_desk.specs.declared.command.Reply.TheVariants as replies
use Rattle.cat_io.specs.Word.{Word, plain, memory, cut, unkept, cut_unkept}
use Rattle.cat_model.specs.Catalogue.{Rules}
use Rattle.cat_model.specs.Reply.{acted, finished, placed, taken}
use Rattle.cat_model.specs.Settle.{try_settle}
use Rattle.cat_model.specs.Step.{refusal}
use Rattle.cat_model.specs.Step.Event.{Mutate as Mutated, ShelfPut as PutOnShelf, ShelfDrop as DroppedFromShelf, Refresh as Refreshed, Forget as Forgotten, ForgetNumber as NumberForgotten, Take as Taken, Finish as Finished, PutStitch as StitchPut}
use Rattle.cat_model.specs.declared.types.Fault.{Fault}
use Rattle.cat_model.specs.declared.types.Fault.TheVariants as model
use Rattle.cat_model.specs.declared.types.Progress.{Progress}
use Rattle.cat_model.specs.declared.types.Settings.{Settings}
use Rattle.cat_model.specs.declared.types.State.{State}
use Rattle.cat_model.specs.declared.types.Stop.{Stop}
use Rattle.cat_model.specs.declared.types.Stop.TheVariants.{Refused as StopRefused, Limit}
use Rattle.cat_session.specs.Carried.{CarriesDeed, IsShort, Stays}
use Rattle.cat_session.specs.Replies.{IsFaultSaid, IsSaid, reply_line, shown}

-- ---- every answer is said

fault_said : (f : Fault) → IsFaultSaid (core_fault f)
fault_said (model.OldSerial n) = tt
fault_said model.NotFound = tt
fault_said (model.TooLarge n) = tt
fault_said (model.Spent c) = tt

event_said : (r : Option Fault) (reply : Reply) → IsSaid reply → IsSaid (or_refused r reply)
event_said None reply h = h
event_said (Some f) reply h = fault_said f

stop_said : (p : Progress) (stop : Option Stop) → IsSaid (settled_as (stop_answer p stop))
stop_said p None = tt
stop_said p (Some (StopRefused f)) = tt
stop_said p (Some Limit) = tt

settle_said : (limit : Option ℕ) (p : Progress) → IsSaid (settle_reply limit p)
settle_said None p = stop_said p p.stop
settle_said (Some n) p = tt

module _ (rules : Rules) (s : Settings) (now : ℕ) (limit : Option ℕ) (m : State) where
  answer_said : (d : Deed) → IsSaid (answered rules s now limit d m)
  answer_said (Mutate provider x) = event_said (refusal rules s (Mutated provider x) m) (replies.Mutated (acted provider x m)) (tt {0})
  answer_said (ShelfPut name text) = event_said (refusal rules s (PutOnShelf name text) m) replies.Changed (tt {0})
  answer_said (ShelfDrop name) = event_said (refusal rules s (DroppedFromShelf name) m) replies.Changed (tt {0})
  answer_said (Refresh r) = event_said (refusal rules s (Refreshed r) m) replies.Changed (tt {0})
  answer_said (Forget r) = event_said (refusal rules s (Forgotten r) m) replies.Changed (tt {0})
  answer_said (ForgetNumber number) = event_said (refusal rules s (NumberForgotten number) m) replies.Changed (tt {0})
  answer_said Take = event_said (refusal rules s (Taken now) m) (replies.Taken (taken rules s now m)) (tt {0})
  answer_said (Finish order) = event_said (refusal rules s (Finished order now) m) (replies.Finished (finished rules order m)) (tt {0})
  answer_said (TakeStitch after) = tt {0}
  answer_said (PutStitch order) = event_said (refusal rules s (StitchPut order) m) (replies.Placed (placed rules order m)) (tt {0})
  answer_said Settle = settle_said limit (try_settle rules s now limit m)

-- ---- how long answers are

event_short : (r : Option Fault) (reply : Reply) → shown reply ≡ 0 → shown (or_refused r reply) ≡ 0
event_short None reply h = h
event_short (Some f) reply h = refl

stop_short : (p : Progress) (stop : Option Stop) → shown (settled_as (stop_answer p stop)) ≡ 0
stop_short p None = refl
stop_short p (Some (StopRefused f)) = refl
stop_short p (Some Limit) = refl

settle_short : (limit : Option ℕ) (p : Progress) → shown (settle_reply limit p) ≡ 0
settle_short None p = stop_short p p.stop
settle_short (Some n) p = refl

module _ (rules : Rules) (s : Settings) (now : ℕ) (limit : Option ℕ) (m : State) where
  answer_short : (d : Deed) → IsShort d → shown (answered rules s now limit d m) ≡ 0
  answer_short (Mutate provider x) h = event_short (refusal rules s (Mutated provider x) m) (replies.Mutated (acted provider x m)) refl
  answer_short (ShelfPut name text) h = event_short (refusal rules s (PutOnShelf name text) m) replies.Changed refl
  answer_short (ShelfDrop name) h = event_short (refusal rules s (DroppedFromShelf name) m) replies.Changed refl
  answer_short (Refresh r) h = event_short (refusal rules s (Refreshed r) m) replies.Changed refl
  answer_short (Forget r) h = event_short (refusal rules s (Forgotten r) m) replies.Changed refl
  answer_short (ForgetNumber number) h = event_short (refusal rules s (NumberForgotten number) m) replies.Changed refl
  answer_short Take h = absurd h
  answer_short (Finish order) h = event_short (refusal rules s (Finished order now) m) (replies.Finished (finished rules order m)) refl
  answer_short (TakeStitch after) h = absurd h
  answer_short (PutStitch order) h = event_short (refusal rules s (StitchPut order) m) (replies.Placed (placed rules order m)) refl
  answer_short Settle h = settle_short limit (try_settle rules s now limit m)

-- ---- what a desk did

module _ (rules : Rules) (now : ℕ) (d : Deed) (old new : Ledger) (reply : Reply) (same : new.settings ≡ old.settings) where
  shows_none : (word : Word) → reply ≡ deed_reply rules old.settings now word d old.state → IsShort d → shown reply ≡ 0
  shows_none plain answer h = ap shown answer ∙ answer_short rules old.settings now None old.state d h
  shows_none memory answer h = ap shown answer
  shows_none (cut n) answer h = ap shown answer ∙ answer_short rules old.settings now (Some n) old.state d h
  shows_none unkept answer h = ap shown answer ∙ answer_short rules old.settings now None old.state d h
  shows_none (cut_unkept i) answer h = ap shown answer ∙ answer_short rules old.settings now None old.state d h

  unsaid : (word : Word) → new.state ≡ after_deed rules old.settings now word d old.state → reply ≡ deed_reply rules old.settings now word d old.state → (IsSaid reply → ⊥) → Stays old new
  unsaid plain state answer no_one = absurd (no_one (subst IsSaid (sym answer) (answer_said rules old.settings now None old.state d)))
  unsaid memory state answer no_one = record { state = state; settings = same }
  unsaid (cut n) state answer no_one = absurd (no_one (subst IsSaid (sym answer) (answer_said rules old.settings now (Some n) old.state d)))
  unsaid unkept state answer no_one = absurd (no_one (subst IsSaid (sym answer) (answer_said rules old.settings now None old.state d)))
  unsaid (cut_unkept i) state answer no_one = absurd (no_one (subst IsSaid (sym answer) (answer_said rules old.settings now None old.state d)))

  said : (word : Word) → new.state ≡ after_deed rules old.settings now word d old.state → reply ≡ deed_reply rules old.settings now word d old.state → IsSaid reply
      → (text : List ℕ) → text ≡ reply_line reply → CarriesDeed rules now d old new text
  said plain state answer h text told = record { word = plain; acts = tt; state = state; settings = same; says = told ∙ ap reply_line answer }
  said memory state answer h text told = absurd (subst IsSaid answer h)
  said (cut n) state answer h text told = record { word = cut n; acts = tt; state = state; settings = same; says = told ∙ ap reply_line answer }
  said unkept state answer h text told = record { word = plain; acts = tt; state = state; settings = same; says = told ∙ ap reply_line answer }
  said (cut_unkept i) state answer h text told = record { word = plain; acts = tt; state = state; settings = same; says = told ∙ ap reply_line answer }

module _ (rules : Rules) (now : ℕ) (d : Deed) (old new : Ledger) (reply : Reply) where
  -- the reply to a short deed shows no reference
  pub none_shown : Acts rules now d old new reply → IsShort d → shown reply ≡ 0
  none_shown acts h = shows_none rules now d old new reply acts.settings acts.word acts.answer h

  -- what isn't said changed nothing
  pub unmoved : Acts rules now d old new reply → (IsSaid reply → ⊥) → Stays old new
  unmoved acts no_one = unsaid rules now d old new reply acts.settings acts.word acts.state acts.answer no_one

  -- what is said is the line of what was done
  pub carries : Acts rules now d old new reply → IsSaid reply → (text : List ℕ) → text ≡ reply_line reply → CarriesDeed rules now d old new text
  carries acts h text told = said rules now d old new reply acts.settings acts.word acts.state acts.answer h text told

-- ---- a value that is there

pub ok_then : {A E : Type 0} (r : Result A E) (P Q : A → Type 0) → IfOk r P → ((x : A) → P x → Q x) → IfOk r Q
ok_then (Ok x) P Q h f = f x h
ok_then (Err e) P Q h f = tt

pub on_err : {A E : Type 0} (r : Result A E) (P : Type 0) → P → OnErr r P
on_err (Ok x) P h = tt
on_err (Err e) P h = h

-- what was appended to nothing
pub appended : (old new text : List ℕ) → new ≡ old ++ text → old ≡ [] → new ≡ text
appended old new text e none = e ∙ ap (λ l. l ++ text) none

-- what a desk did at the moment that its clock gave
pub at_moment : (rules : Rules) (t now readings readings' : ℕ) (d : Deed) (old new : Ledger) (reply : Reply) → ActsOnce rules t readings readings' d old new reply → t ≡ now → Acts rules now d old new reply
at_moment rules t now readings readings' d old new reply h still = subst (λ t. Acts rules t d old new reply) still h.acts
