-- What a call of the catalogue answered, as what a desk did.
use Rattle.std.proofs.Common.{◌≡◌, ◌≤◌, ◌<◌, ◌⊎◌, inl, inr, ℕ, cond, is_some, refl, sym, ap, ◌∙◌, subst, Ok, Err, IfOk, IfErr}
use Rattle.std.proofs.Math.Nat.{eq-or-lt_of_le}
use Rattle.std.specs.Bool.{⊤}
use Rattle.std.specs.declared.option.Option.TheVariants.{None, Some}
use Rattle.std.specs.declared.result.Result.{Result}
use Rattle.cat_core.specs.Answer.{IsCutSettle, IsReply, after, core_fault, stop_answer}
use Rattle.cat_core.specs.declared.fault.CoreFault.{CoreFault}
use Rattle.cat_core.specs.declared.fault.CoreFault.TheVariants as core
use Rattle.cat_core.specs.declared.fault.Cut.{Cut}
use Rattle.cat_core.specs.declared.ledger.Ledger.{Ledger}
use Rattle.cat_desk.specs.Acts.{Acts, NeedsNone, answered, done, event_reply, or_refused, reply_as, settled_as}
use Rattle.cat_desk.specs.Deed.{Deed}
use Rattle.cat_desk.specs.Deed.Deed.{Settle}
use Rattle.cat_desk.specs.declared.command.Reply.{Reply}
use Rattle.cat_desk.specs.declared.command.Reply.TheVariants as replies
use Rattle.cat_io.specs.Word.{plain, memory, cut}
use Rattle.cat_model.specs.Catalogue.{Rules}
use Rattle.cat_model.specs.Reply.{counts}
use Rattle.cat_model.specs.Settle.{try_settle}
use Rattle.cat_model.specs.Step.{Event, change, refusal, step}
use Rattle.cat_model.specs.declared.types.Counts.{Counts}
use Rattle.cat_model.specs.declared.types.Fault.{Fault}
use Rattle.cat_model.specs.declared.types.Fault.TheVariants as model
use Rattle.cat_model.specs.declared.types.Stop.TheVariants.{Refused as StopRefused}

-- a call lacked memory
abbrev pub Lacks : {A : Type 0} → Result A CoreFault → Type 0
Lacks (Ok x) = ⊥
Lacks (Err (core.OldSerial n)) = ⊥
Lacks (Err core.NotFound) = ⊥
Lacks (Err (core.TooLarge n)) = ⊥
Lacks (Err (core.Spent c)) = ⊥
Lacks (Err core.Keeper) = ⊥
Lacks (Err core.NoMemory) = ⊤

-- what lacked memory answered so
pub lacking : {A : Type 0} (came : Result A CoreFault) → Lacks came → came ≡ Err core.NoMemory
lacking (Ok x) lacks = absurd lacks
lacking (Err (core.OldSerial n)) lacks = absurd lacks
lacking (Err core.NotFound) lacks = absurd lacks
lacking (Err (core.TooLarge n)) lacks = absurd lacks
lacking (Err (core.Spent c)) lacks = absurd lacks
lacking (Err core.Keeper) lacks = absurd lacks
lacking (Err core.NoMemory) lacks = refl

-- what is answered otherwise didn't lack memory
pub other : {A : Type 0} (came : Result A CoreFault) (P : Type 0) (x : Result A CoreFault) → (Lacks x → ⊥) → (P → came ≡ x) → Lacks came → P → ⊥
other came P x not same lacks h = not (subst Lacks (same h) lacks)

-- a mutation of an old serial is answered so, or that it comes again
pub old_needs : {A : Type 0} (came : Result A CoreFault) (serial last : ℕ) {x : A} → (serial ≡ last → came ≡ Ok x) → (serial < last → came ≡ Err (core.OldSerial last))
    → Lacks came → serial ≤ last → ⊥
old_needs came serial last again old lacks below = at (eq-or-lt_of_le below)
  where
    at : (serial ≡ last) ⊎ (serial < last) → ⊥
    at (inl h) = subst Lacks (again h) lacks
    at (inr h) = subst Lacks (old h) lacks

module _ (rules : Rules) (now : ℕ) (old new : Ledger) (same : new.settings ≡ old.settings) where
  -- ---- events

  -- a deed that is this event, with this reply where it isn't refused
  pub record Is (d : Deed) (e : Event) (reply : Reply) : Type 0 where
    pub does : done rules old.settings now None d old.state ≡ step rules old.settings e old.state
    pub tells : answered rules old.settings now None d old.state ≡ event_reply rules old.settings e old.state reply

  -- a refused event changes nothing
  stays : (e : Event) (f : Fault) → refusal rules old.settings e old.state ≡ Some f → old.state ≡ step rules old.settings e old.state
  unfolding step
  stays e f h = sym (ap (λ r. cond (is_some r) old.state (change rules old.settings e old.state)) h)

  refused : (d : Deed) (e : Event) (reply : Reply) → Is d e reply → (f : Fault) → new.state ≡ old.state → refusal rules old.settings e old.state ≡ Some f → Acts rules now d old new (replies.Refused (core_fault f))
  refused d e reply is f unchanged h = record {
    word = plain;
    state = unchanged ∙ (stays e f h ∙ sym is.does);
    settings = same;
    answer = sym (ap (λ r. or_refused r reply) h) ∙ sym is.tells;
    spare = λ none. refl;
    exact = tt;
  }

  replied : {A : Type 0} (says : A → Reply) (x : A) (d : Deed) (e : Event) → Is d e (says x) → (came : Result A CoreFault)
      → new.state ≡ after came old.state (step rules old.settings e old.state) → IsReply came (refusal rules old.settings e old.state) x
      → (Lacks came → NeedsNone d old.state → ⊥) → Acts rules now d old new (reply_as says came)
  replied says x d e is (Ok y) state h needs = record {
    word = plain;
    state = state ∙ sym is.does;
    settings = same;
    answer = ap says h.1 ∙ (sym (ap (λ r. or_refused r (says x)) h.0) ∙ sym is.tells);
    spare = λ none. refl;
    exact = tt;
  }
  replied says x d e is (Err (core.OldSerial n)) state h needs = refused d e (says x) is (model.OldSerial n) state h
  replied says x d e is (Err core.NotFound) state h needs = refused d e (says x) is model.NotFound state h
  replied says x d e is (Err (core.TooLarge n)) state h needs = refused d e (says x) is (model.TooLarge n) state h
  replied says x d e is (Err (core.Spent c)) state h needs = refused d e (says x) is (model.Spent c) state h
  replied says x d e is (Err core.Keeper) state h needs = absurd h
  replied says x d e is (Err core.NoMemory) state h needs = record { word = memory; state = state; settings = same; answer = refl; spare = λ none. absurd (needs tt none); exact = tt }

  -- what a call answered to a deed that is an event
  pub acts : {A : Type 0} (says : A → Reply) (x : A) (d' d : Deed) (e : Event) → d' ≡ d → Is d e (says x) → (came : Result A CoreFault)
      → new.state ≡ after came old.state (step rules old.settings e old.state) → IsReply came (refusal rules old.settings e old.state) x
      → (Lacks came → NeedsNone d old.state → ⊥) → (reply : Reply) → reply ≡ reply_as says came → Acts rules now d' old new reply
  acts says x d' d e same_deed is came state h needs reply told =
      subst (λ r. Acts rules now d' old new r) (sym told) (subst (λ v. Acts rules now v old new (reply_as says came)) (sym same_deed) (replied says x d e is came state h needs))

  -- ---- settles

  cutting : (c : Cut) → IsCutSettle rules old.settings now old.state new.state c → c.fault ≡ core.NoMemory → Acts rules now Settle old new (replies.Cut c)
  cutting c h lack = record {
    word = cut c.events;
    state = sym h.state;
    settings = same;
    answer = λ i. replies.Cut (record { events = sym h.events i; fault = lack i });
    spare = λ none. absurd none;
    exact = (refl, h.events);
  }

  spent : (c : Cut) (f : Fault) → ((try_settle rules old.settings now None old.state).state ≡ new.state) × ((try_settle rules old.settings now None old.state).events ≡ c.events)
      → (try_settle rules old.settings now None old.state).stop ≡ Some (StopRefused f) → c.fault ≡ core_fault f → Acts rules now Settle old new (replies.Cut c)
  spent c f whole stop cause = record {
    word = plain;
    state = sym whole.0;
    settings = same;
    answer = (λ i. replies.Cut (record { events = sym whole.1 i; fault = cause i })) ∙ sym (ap (λ s. settled_as (stop_answer (try_settle rules old.settings now None old.state) s)) stop);
    spare = λ none. refl;
    exact = tt;
  }

  cut_at : (events : ℕ) (fault : CoreFault) → IsCutSettle rules old.settings now old.state new.state (record { events = events; fault = fault }) → Acts rules now Settle old new (replies.Cut (record { events = events; fault = fault }))
  cut_at events (core.OldSerial n) h = spent _ (model.OldSerial n) h.whole h.cause refl
  cut_at events core.NotFound h = spent _ model.NotFound h.whole h.cause refl
  cut_at events (core.TooLarge n) h = spent _ (model.TooLarge n) h.whole h.cause refl
  cut_at events (core.Spent c) h = spent _ (model.Spent c) h.whole h.cause refl
  cut_at events core.Keeper h = absurd h.cause
  cut_at events core.NoMemory h = cutting _ h refl

  settled_at : (came : Result Counts Cut) → IfOk came (λ x. new.state ≡ (try_settle rules old.settings now None old.state).state)
      → IfOk came (λ x. x ≡ counts (try_settle rules old.settings now None old.state)) → IfOk came (λ x. (try_settle rules old.settings now None old.state).stop ≡ None)
      → IfErr came (λ x. IsCutSettle rules old.settings now old.state new.state x) → Acts rules now Settle old new (settled_as came)
  settled_at (Ok n) state count ended part = record {
    word = plain;
    state = state;
    settings = same;
    answer = ap replies.Settled count ∙ sym (ap (λ s. settled_as (stop_answer (try_settle rules old.settings now None old.state) s)) ended);
    spare = λ none. refl;
    exact = tt;
  }
  settled_at (Err c) state count ended part = cut_at c.events c.fault part

  -- what a settle answered
  pub settles : (d : Deed) → d ≡ Settle → (came : Result Counts Cut) → IfOk came (λ x. new.state ≡ (try_settle rules old.settings now None old.state).state)
      → IfOk came (λ x. x ≡ counts (try_settle rules old.settings now None old.state)) → IfOk came (λ x. (try_settle rules old.settings now None old.state).stop ≡ None)
      → IfErr came (λ x. IsCutSettle rules old.settings now old.state new.state x) → (reply : Reply) → reply ≡ settled_as came → Acts rules now d old new reply
  settles d same_deed came state count ended part reply told =
      subst (λ r. Acts rules now d old new r) (sym told) (subst (λ v. Acts rules now v old new (settled_as came)) (sym same_deed) (settled_at came state count ended part))
