-- What a call of an event makes of a progress, and what holds after a take.
use Rattle.std.proofs.Common.{arith, ◌≡◌, ℕ, ◌+◌, ◌-◌, ◌<◌, ◌≤◌, Bool, true, false, cond, [], ◌∷◌, refl, sym, ap, subst, ◌∙◌, is_some}
use Rattle.std.specs.declared.option.Option.{Option}
use Rattle.std.specs.declared.option.Option.TheVariants.{None, Some}
use Rattle.std.specs.declared.result.Result.{Result}
use Rattle.std.specs.declared.result.Result.TheVariants.{Ok, Err}
use Rattle.std.specs.Option.{option_and_then}
use Rattle.cat_collections.specs.Table.{get, put, same_text, text_cmp}
use Rattle.cat_collections.proofs.Tables.{text_total, text_antisymmetric, same_is, find-put_same, find-put_other}
use Rattle.cat_links.specs.Links.{Emitted}
use Rattle.cat_plan.specs.Linked.{AreLinked}
use Rattle.cat_model.specs.declared.types.Fault.{Fault}
use Rattle.cat_model.specs.declared.types.Progress.{Progress}
use Rattle.cat_model.specs.declared.types.Record.{Record}
use Rattle.cat_model.specs.declared.types.Settings.{Settings}
use Rattle.cat_model.specs.declared.types.State.{State}
use Rattle.cat_model.specs.Catalogue.{Ref, Rules, emits, output_of}
use Rattle.cat_model.specs.Settle.{try_event}
use Rattle.cat_model.specs.Sound.{AreOrdered, AreSmall, Sound}
use Rattle.cat_model.specs.Step.{Event, change, leased, refusal, step, take}
use Rattle.cat_model.specs.Step.Event.{TakeAt}
use Rattle.cat_laws.proofs.Ordered.{step_ordered}
use Rattle.cat_laws.proofs.Steps.{run_kept, step_small}
use Rattle.cat_events.specs.Coming.{IsSteady, came_fault, came_state}
use Rattle.cat_events.specs.Stepped.{come_to, stepped}
use Rattle.cat_events.specs.declared.stepped.Stepped.{Stepped}
use Rattle.cat_events.specs.declared.stepped.Stepped.TheVariants.{Refused, Acts}
use Rattle.cat_settle.specs.Part.{Came, Goes, IsCut, moved, moved_in, noted}
use Rattle.cat_settle.proofs.Parts.{cut_here, event_done, event_goes, event_within, rests}
use Rattle.cat_settle.proofs.Stays.{event_stays}

-- an event that is counted, or that stops the settle, moves it
noted_moves : (e : Event) (c : Stepped) (p : Progress) → noted e (came_fault c) (record p { state = came_state c p.state }) ≡ moved e c p
noted_moves e (Acts n) p = refl
noted_moves e (Refused fault) p = refl

-- so where the call of an event answered this and made n
pub noted_is : (e : Event) (c : Stepped) (p : Progress) (came : Option Fault) (n : State) → came ≡ came_fault c → n ≡ came_state c p.state → noted e came (record p { state = n }) ≡ moved e c p
noted_is e c p came n fault state = (λ i. noted e (fault i) (record p { state = state i })) ∙ noted_moves e c p

-- counting and stopping leave the state as it is
noted_state : (e : Event) (v : Option Fault) (p : Progress) → (noted e v p).state ≡ p.state
noted_state e None p = refl
noted_state e (Some fault) p = refl

pub noted_steady : (rules : Rules) (links : Emitted) (e : Event) (came : Option Fault) (p q : Progress) (n : State) → q ≡ noted e came (record p { state = n }) → IsSteady rules links n → IsSteady rules links q.state
noted_steady rules links e came p q n is h = subst (IsSteady rules links) (sym (ap (λ (x : Progress). x.state) is ∙ noted_state e came (record p { state = n }))) h

-- the state that an event moves a progress to
pub moved_state : (e : Event) (c : Stepped) (p : Progress) → (moved e c p).state ≡ came_state c p.state
moved_state e (Acts n) p = refl
moved_state e (Refused fault) p = refl

module _ (rules : Rules) (s : Settings) (e : Event) (p q : Progress) (none : is_some p.stop ≡ false) where
  pub called_came : {A E : Type 0} (r : Result A E) → q ≡ moved_in r e (come_to rules s e p.state) p → Came r (λ limit. try_event rules s limit e p) q
  called_came (Ok x) is = event_done rules s e p (come_to rules s e p.state) q refl is none
  called_came (Err x) is = subst (IsCut (λ limit. try_event rules s limit e p)) (sym is) (cut_here (λ limit x. try_event rules s limit e x) (event_stays rules s e) p)

  pub called_goes : {A E : Type 0} (r : Result A E) → q ≡ moved_in r e (come_to rules s e p.state) p → Goes rules p q
  called_goes (Ok x) is = event_goes rules s e p (come_to rules s e p.state) q refl is none
  called_goes (Err x) is = subst (Goes rules p) (sym is) (rests rules p)

  pub called_within : {A E : Type 0} (r : Result A E) (most : ℕ) → p.events < most → q ≡ moved_in r e (come_to rules s e p.state) p → q.events ≤ most
  called_within (Ok x) most room is = event_within rules s e p (come_to rules s e p.state) q refl is none most room
  called_within (Err x) most room is = let same : q.events ≡ p.events = ap (λ (x : Progress). x.events) is in omega arith

-- ---- a take

module _ (rules : Rules) (s : Settings) where
  -- the state that an event comes to is that of its step
  pub came_step : (e : Event) (m : State) → came_state (come_to rules s e m) m ≡ step rules s e m
  unfolding step
  came_step e m = go (refusal rules s e m)
    where
      go : (v : Option Fault) → came_state (stepped v (change rules s e m)) m ≡ cond (is_some v) m (change rules s e m)
      go None = refl
      go (Some x) = refl

  -- a take leaves the outputs as they are
  put_outputs : (r : Ref) (m : State) (x y : Record) → get m.records r ≡ Some x → y.output ≡ x.output → (q : Ref) → output_of (put text_cmp r y m.records) q ≡ output_of m.records q
  put_outputs r m x y e same q = go (same_text q r) refl
    where
      go : (b : Bool) → same_text q r ≡ b → output_of (put text_cmp r y m.records) q ≡ output_of m.records q
      go true is =
          let here : q ≡ r = same_is text_total text_antisymmetric q r is in
          subst (λ k. output_of (put text_cmp r y m.records) k ≡ output_of m.records k) (sym here)
          (ap (option_and_then (λ (x : Record). x.output)) (find-put_same text_total text_antisymmetric r y m.records) ∙ (same ∙ sym (ap (option_and_then (λ (x : Record). x.output)) e)))
      go false is = ap (option_and_then (λ (x : Record). x.output)) (find-put_other text_total text_antisymmetric q r y m.records is)

  take_outputs : (r : Ref) (now : ℕ) (m : State) (v : Option Record) → get m.records r ≡ v → (q : Ref) → output_of (take s r now m v).records q ≡ output_of m.records q
  take_outputs r now m None e q = refl
  take_outputs r now m (Some x) e q = put_outputs r m x (leased x.due x (Some (record { token = m.token; expires = now + s.lease }))) e refl q

  same_linked : (links : Emitted) (m n : State) → ((q : Ref) → output_of n.records q ≡ output_of m.records q) → AreLinked rules links m → AreLinked rules links n
  same_linked links m n same h = record { in_order = h.in_order; each = λ q. h.each q ∙ ap (emits rules q) (sym (same q)) }

  take_linked : (links : Emitted) (r : Ref) (now : ℕ) (m : State) (v : Option Fault) → AreLinked rules links m → AreLinked rules links (came_state (stepped v (change rules s (TakeAt r now) m)) m)
  take_linked links r now m None h = same_linked links m (change rules s (TakeAt r now) m) (take_outputs r now m (get m.records r) refl) h
  take_linked links r now m (Some fault) h = h

  -- what holds between two events holds after a take, with the links as before
  pub take_steady : (links : Emitted) (r : Ref) (now : ℕ) (m : State) → IsSteady rules links m → IsSteady rules links (came_state (come_to rules s (TakeAt r now) m) m)
  take_steady links r now m h =
      let e = TakeAt r now in
      let same = sym (came_step e m) in
      record {
        sound = subst (Sound rules) same (run_kept rules s (e ∷ []) m h.sound);
        small = subst AreSmall same (step_small rules s e m h.small);
        ordered = subst AreOrdered same (step_ordered rules s e m h.ordered);
        linked = take_linked links r now m (refusal rules s e m) h.linked;
      }

  pub taken_steady : (links : Emitted) (r : Ref) (now : ℕ) (p q : Progress) → q ≡ moved (TakeAt r now) (come_to rules s (TakeAt r now) p.state) p → IsSteady rules links p.state → IsSteady rules links q.state
  taken_steady links r now p q is h =
      let there : came_state (come_to rules s (TakeAt r now) p.state) p.state ≡ q.state = sym (ap (λ (x : Progress). x.state) is ∙ moved_state (TakeAt r now) (come_to rules s (TakeAt r now) p.state) p) in
      subst (IsSteady rules links) there (take_steady links r now p.state h)
