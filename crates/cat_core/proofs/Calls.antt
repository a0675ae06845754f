-- A call is the step of its event.
use Rattle.std.proofs.Common.{◌≡◌, cond, is_some, refl, sym, ap, ◌∙◌, subst, true≢false, IfOk}
use Rattle.std.specs.declared.option.Option.{Option}
use Rattle.std.specs.declared.option.Option.TheVariants.{None, Some}
use Rattle.std.specs.declared.result.Result.{Result}
use Rattle.std.specs.declared.result.Result.TheVariants.{Ok, Err}
use Rattle.cat_links.specs.Links.{Emitted}
use Rattle.cat_model.specs.declared.types.Fault.{Fault}
use Rattle.cat_model.specs.declared.types.Fault.TheVariants.{OldSerial, NotFound, TooLarge, Spent}
use Rattle.cat_model.specs.declared.types.Settings.{Settings}
use Rattle.cat_model.specs.declared.types.State.{State}
use Rattle.cat_model.specs.Catalogue.{Rules}
use Rattle.cat_model.specs.Sound.{AreBegun}
use Rattle.cat_model.specs.Step.{Event, change, refusal, step}
use Rattle.cat_laws.proofs.Counters.{step_begun}
use Rattle.cat_events.specs.Coming.{HasCome, IsSteady, came_fault, came_state, state_after}
use Rattle.cat_events.specs.Stepped.{come_to, stepped}
use Rattle.cat_events.specs.declared.stepped.Stepped.{Stepped}
use Rattle.cat_core.specs.declared.fault.CoreFault.{CoreFault}
use Rattle.cat_core.specs.declared.fault.CoreFault.TheVariants.{NoMemory}
use Rattle.cat_core.specs.declared.ledger.Ledger.{Ledger}
use Rattle.cat_core.specs.Answer.{IsFault, IsReply, after, answer_with, core_fault, event_answer, replied}
use Rattle.cat_core.specs.Kept.{IsKept}

is_fault : (fault : Fault) (r : Option Fault) → r ≡ Some fault → IsFault (core_fault fault) r
is_fault (OldSerial n) r h = h
is_fault NotFound r h = h
is_fault (TooLarge n) r h = h
is_fault (Spent c) r h = h

-- the state after a call that was answered so, and what is answered to it
record IsCall {E : Type 0} (rules : Rules) (s : Settings) (e : Event) (m : State) (answer : Result (Option Fault) E) (n : State) : Type 0 where
  state : n ≡ after (event_answer answer) m (step rules s e m)
  reply : IsReply (event_answer answer) (refusal rules s e m) tt
  begun : AreBegun m → AreBegun n

module _ (rules : Rules) (s : Settings) (e : Event) (m : State) where
  -- the state that an event comes to is that of its step
  pub came_step : came_state (come_to rules s e m) m ≡ step rules s e m
  unfolding step
  came_step = go (refusal rules s e m)
    where
      go : (v : Option Fault) → came_state (stepped v (change rules s e m)) m ≡ cond (is_some v) m (change rules s e m)
      go None = refl
      go (Some fault) = refl

  acts : {E : Type 0} (n : State) → refusal rules s e m ≡ None → n ≡ step rules s e m → IsCall {E = E} rules s e m (Ok None) n
  acts n none is = record { state = is; reply = (none, refl); begun = λ h. subst AreBegun (sym is) (step_begun rules s e m h) }

  refuses : {E : Type 0} (n : State) (fault : Fault) → refusal rules s e m ≡ Some fault → n ≡ m → IsCall {E = E} rules s e m (Ok (Some fault)) n
  refuses n fault some is = record { state = is; reply = is_fault fault (refusal rules s e m) some; begun = λ h. subst AreBegun (sym is) h }

  called : {E : Type 0} (answer : Result (Option Fault) E) (n : State) → n ≡ state_after answer (come_to rules s e m) m → IfOk answer (λ f. f ≡ came_fault (come_to rules s e m)) → IsCall rules s e m answer n
  called {E} (Ok f) n is told = go f (refusal rules s e m) refl told is
    where
      go : (f v : Option Fault) → refusal rules s e m ≡ v → f ≡ came_fault (stepped v (change rules s e m)) → n ≡ came_state (stepped v (change rules s e m)) m → IsCall {E = E} rules s e m (Ok f) n
      go None None r t i = acts n r (is ∙ came_step)
      go None (Some fault) r t i = absurd (true≢false (sym (ap is_some t)))
      go (Some fault) None r t i = absurd (true≢false (ap is_some t))
      go (Some fault) (Some other) r t i = refuses n fault (r ∙ sym t) i
  called (Err x) n is told = record { state = is; reply = tt; begun = λ h. subst AreBegun (sym is) h }

-- an event that takes no memory is not answered with want of it
pub no_memory : (E : Type 0) (f : Option Fault) (r : Result (Unit {0}) CoreFault) → r ≡ event_answer {E = E} (Ok f) → r ≡ Err NoMemory → ⊥
no_memory E None r e h = absurd (cc)
no_memory E (Some (OldSerial n)) r e h = absurd (cc)
no_memory E (Some NotFound) r e h = absurd (cc)
no_memory E (Some (TooLarge n)) r e h = absurd (cc)
no_memory E (Some (Spent c)) r e h = absurd (cc)

-- what a catalogue keeps is kept by a call; x is the ledger that was opened
module _ {E : Type 0} (rules : Rules) (e : Event) (x m : Ledger) (same : x ≡ m) (answer : Result (Option Fault) E) (n : State) (links : Emitted) (come : HasCome rules (come_to rules x.settings e x.state) answer x.state n links) where
  opened : IsCall rules x.settings e x.state answer n
  opened = called rules x.settings e x.state answer n come.state come.fault

  call : IsCall rules m.settings e m.state answer n
  call = subst (λ (l : Ledger). IsCall rules l.settings e l.state answer n) same opened

  pub ledger_kept : (before : Emitted) → IsKept rules before x → IsKept rules links (record x { state = n })
  ledger_kept before h = record { settings = h.settings; steady = come.steady; begun = opened.begun h.begun }

  pub state_is : (r : Result (Unit {0}) CoreFault) → r ≡ event_answer answer → n ≡ after r m.state (step rules m.settings e m.state)
  state_is r er = call.state ∙ ap (λ a. after a m.state (step rules m.settings e m.state)) (sym er)

  pub reply_is : (r : Result (Unit {0}) CoreFault) → r ≡ event_answer answer → IsReply r (refusal rules m.settings e m.state) tt
  reply_is r er = subst (λ a. IsReply a (refusal rules m.settings e m.state) tt) (sym er) call.reply

  -- the same with a reply
  pub state_with : {T : Type 0} (a : Result (Unit {0}) CoreFault) → a ≡ event_answer answer → (r : Result T CoreFault) (reply : T) → r ≡ replied a reply → n ≡ after r m.state (step rules m.settings e m.state)
  state_with a ea r reply er = state_is a ea ∙ (go a ∙ sym (ap (λ v. after v m.state (step rules m.settings e m.state)) er))
    where
      go : (a : Result (Unit {0}) CoreFault) → after a m.state (step rules m.settings e m.state) ≡ after (replied a reply) m.state (step rules m.settings e m.state)
      go (Ok x) = refl
      go (Err fault) = refl

  pub reply_with : {T : Type 0} (a : Result (Unit {0}) CoreFault) → a ≡ event_answer answer → (r : Result T CoreFault) (reply right : T) → r ≡ replied a reply → reply ≡ right → IsReply r (refusal rules m.settings e m.state) right
  reply_with a ea r reply right er is = subst (λ v. IsReply v (refusal rules m.settings e m.state) right) (sym er) (go a (reply_is a ea))
    where
      go : (a : Result (Unit {0}) CoreFault) → IsReply a (refusal rules m.settings e m.state) tt → IsReply (replied a reply) (refusal rules m.settings e m.state) right
      go (Ok x) h = (h.0, is)
      go (Err fault) h = h

-- what is kept, and what is told, of a call that gives its reply with its refusal
pub record IsReplied {T : Type 0} (rules : Rules) (e : Event) (x m : Ledger) (n : State) (links : Emitted) (right : T) (r : Result T CoreFault) : Type 0 where
  pub kept : IsKept rules links x → IsKept rules links (record x { state = n })
  pub state : n ≡ after r m.state (step rules m.settings e m.state)
  pub reply : IsReply r (refusal rules m.settings e m.state) right

-- what an event comes to from a ledger
abbrev from_ledger : Rules → Event → Ledger → Stepped
from_ledger rules e x = come_to rules x.settings e x.state

module _ {T : Type 0} (rules : Rules) (e : Event) (x m : Ledger) (same : x ≡ m) (n : State) (links : Emitted) (right : T) where
  lacking : n ≡ x.state → IsReplied rules e x m n links right (Err NoMemory)
  lacking is = record {
    kept = λ h. record { settings = h.settings; steady = subst (IsSteady rules links) (sym is) h.steady; begun = subst AreBegun (sym is) h.begun };
    state = is ∙ ap (λ (l : Ledger). l.state) same;
    reply = tt;
  }

  module _ {E : Type 0} where
    come_replied : (f : Option Fault) (reply : T) → HasCome {E = E} rules (from_ledger rules e x) (Ok f) x.state n links → (f ≡ None → reply ≡ right) → IsReplied rules e x m n links right (answer_with {E = E} (Ok (f, reply)))
    come_replied None reply come is = record {
      kept = ledger_kept {E = E} rules e x m same (Ok None) n links come links;
      state = state_is {E = E} rules e x m same (Ok None) n links come (Ok tt) refl;
      reply = ((reply_is {E = E} rules e x m same (Ok None) n links come (Ok tt) refl).0, is refl);
    }
    come_replied (Some fault) reply come is = record {
      kept = ledger_kept {E = E} rules e x m same (Ok (Some fault)) n links come links;
      state = state_is {E = E} rules e x m same (Ok (Some fault)) n links come (Err (core_fault fault)) refl;
      reply = reply_is {E = E} rules e x m same (Ok (Some fault)) n links come (Err (core_fault fault)) refl;
    }

    pub is_replied : ((f : Option Fault) → n ≡ came_state (from_ledger rules e x) x.state → f ≡ came_fault (from_ledger rules e x) → HasCome {E = E} rules (from_ledger rules e x) (Ok f) x.state n links)
        → (came : Result (Option Fault × T) E) → n ≡ state_after came (from_ledger rules e x) x.state → IfOk came (λ v. v.0 ≡ came_fault (from_ledger rules e x)) → IfOk came (λ v. v.0 ≡ None → v.1 ≡ right)
        → IsReplied rules e x m n links right (answer_with came)
    is_replied come (Ok (f, reply)) is told replies = come_replied f reply (come f is told) replies
    is_replied come (Err y) is told replies = lacking is
