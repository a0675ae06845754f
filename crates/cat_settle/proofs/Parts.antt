-- How parts of a settle join.
use Rattle.std.proofs.Common.{◌≡◌, ℕ, ◌-◌, ◌^◌, ◌<◌, ◌≤◌, Bool, true, false, cond, [], ◌∷◌, refl, sym, ap, subst, ◌∙◌, is_some, nat_le, le_refl, true≢false, arith}
use Rattle.std.proofs.lemmas.Bool.Decides.{nat_tests}
use Rattle.std.specs.declared.option.Option.{Option}
use Rattle.std.specs.declared.option.Option.TheVariants.{None, Some}
use Rattle.std.specs.declared.result.Result.{Result}
use Rattle.std.specs.declared.result.Result.TheVariants.{Ok, Err}
use Rattle.cat_model.specs.declared.types.Fault.{Fault}
use Rattle.cat_model.specs.declared.types.Progress.{Progress}
use Rattle.cat_model.specs.declared.types.Settings.{Settings}
use Rattle.cat_model.specs.declared.types.State.{State}
use Rattle.cat_model.specs.declared.types.Stop.{Stop}
use Rattle.cat_model.specs.declared.types.Stop.TheVariants.{Limit}
use Rattle.cat_model.specs.Catalogue.{Rules}
use Rattle.cat_model.specs.Settle.{after_refusal, counted, is_full, try_event}
use Rattle.cat_model.specs.Sound.{Sound}
use Rattle.cat_model.specs.Step.{Event, change, refusal, step}
use Rattle.cat_laws.proofs.Steps.{run_kept}
use Rattle.cat_events.specs.Stepped.{come_to, stepped}
use Rattle.cat_events.specs.declared.stepped.Stepped.{Stepped}
use Rattle.cat_settle.specs.Part.{Part, IsDone, IsCut, Came, Goes, moved}

-- what has as many events as it may have gets none more
pub record Stays (g : Option ℕ → Progress → Progress) : Type 0 where
  pub state : (n : ℕ) (p : Progress) → n ≤ p.events → (g (Some n) p).state ≡ p.state
  pub events : (n : ℕ) (p : Progress) → n ≤ p.events → (g (Some n) p).events ≡ p.events

-- where nothing was done yet
pub cut_here : (g : Option ℕ → Progress → Progress) → Stays g → (p : Progress) → IsCut (λ limit. g limit p) p
cut_here g stays p = record { state = λ small. stays.state p.events p (le_refl _); events = λ small. stays.events p.events p (le_refl _) }

pub nothing_done : (p : Progress) → IsDone (λ limit. p) p
nothing_done p = record { whole = refl; within = λ small going n h. refl; first = record { state = λ small. refl; events = λ small. refl } }

-- a part may be told in another way
pub same_cut : (f g : Part) → ((limit : Option ℕ) → f limit ≡ g limit) → (new : Progress) → IsCut f new → IsCut g new
same_cut f g e new h = record {
  state = λ small. ap (λ (q : Progress). q.state) (sym (e (Some new.events))) ∙ h.state small;
  events = λ small. ap (λ (q : Progress). q.events) (sym (e (Some new.events))) ∙ h.events small;
}

pub same_done : (f g : Part) → ((limit : Option ℕ) → f limit ≡ g limit) → (new : Progress) → IsDone f new → IsDone g new
same_done f g e new h = record {
  whole = sym (e None) ∙ h.whole;
  within = λ small going n le. sym (e (Some n)) ∙ h.within small going n le;
  first = same_cut f g e new h.first;
}

-- a part that was cut, and what would have come after
pub cut_then : (f : Part) (g : Option ℕ → Progress → Progress) → Stays g → (new : Progress) → IsCut f new → IsCut (λ limit. g limit (f limit)) new
cut_then f g stays new h = record {
  state = λ small. stays.state new.events (f (Some new.events)) (reach small) ∙ h.state small;
  events = λ small. stays.events new.events (f (Some new.events)) (reach small) ∙ h.events small;
}
  where
    reach : new.events < 2 ^ 64 - 1 → new.events ≤ (f (Some new.events)).events
    reach small = let e = h.events small in omega arith

-- what runs on after p's stop
none_or : (v : Option Stop) (A : Type 0) → (v ≡ None → A) → (is_some v ≡ true → A) → A
none_or None A f g = f refl
none_or (Some x) A f g = g refl

none_back : (old new : Option Stop) → new ≡ None → (is_some old ≡ true → new ≡ old) → old ≡ None
none_back None new e h = refl
none_back (Some x) new e h = sym (h refl) ∙ e

module _ (rules : Rules) (f : Part) (g : Option ℕ → Progress → Progress) (stays : Stays g) (mid : Progress) (done : IsDone f mid) (new : Progress) (goes : Goes rules mid new) where
  pub done_cut : IsCut (λ limit. g limit mid) new → IsCut (λ limit. g limit (f limit)) new
  done_cut h = none_or mid.stop (IsCut (λ limit. g limit (f limit)) new) going ended
    where
      going : mid.stop ≡ None → IsCut (λ limit. g limit (f limit)) new
      going e = record {
        state = λ small. let l = goes.events small in ap (λ (q : Progress). (g (Some new.events) q).state) (done.within (omega arith) e new.events l) ∙ h.state small;
        events = λ small. let l = goes.events small in ap (λ (q : Progress). (g (Some new.events) q).events) (done.within (omega arith) e new.events l) ∙ h.events small;
      }

      ended : is_some mid.stop ≡ true → IsCut (λ limit. g limit (f limit)) new
      ended e =
          let rests = goes.stopped e in
          let there = cut_then f g stays mid done.first in
          record {
            state = λ small. let k = rests.events in ap (λ n. (g (Some n) (f (Some n))).state) k ∙ there.state (omega arith) ∙ sym rests.state;
            events = λ small. let k = rests.events in ap (λ n. (g (Some n) (f (Some n))).events) k ∙ there.events (omega arith) ∙ sym k;
          }

  pub done_done : IsDone (λ limit. g limit mid) new → IsDone (λ limit. g limit (f limit)) new
  done_done h = record {
    whole = ap (g None) done.whole ∙ h.whole;
    within = λ small going n le. let l = goes.events small in ap (g (Some n)) (done.within (omega arith) (none_back mid.stop new.stop going (λ e. (goes.stopped e).stop)) n (omega arith)) ∙ h.within small going n le;
    first = done_cut h.first;
  }

  pub done_then : {A E : Type 0} (r : Result A E) → Came r (λ limit. g limit mid) new → Came r (λ limit. g limit (f limit)) new
  done_then (Ok x) h = done_done h
  done_then (Err e) h = done_cut h

pub rests : (rules : Rules) (p : Progress) → Goes rules p p
rests rules p = record { events = λ small. le_refl _; sound = λ h. h; stopped = λ h. record { state = refl; events = refl; stop = refl } }

pub goes_on : (rules : Rules) (p q r : Progress) → Goes rules p q → Goes rules q r → Goes rules p r
goes_on rules p q r a b = record {
  events = λ small. let y = b.events small in let x = a.events (omega arith) in omega arith;
  sound = λ h. b.sound (a.sound h);
  stopped = λ h.
      let x = a.stopped h in
      let y = b.stopped (ap is_some x.stop ∙ h) in
      record { state = y.state ∙ x.state; events = y.events ∙ x.events; stop = y.stop ∙ x.stop };
}

-- ---- one event

module _ (rules : Rules) (s : Settings) (e : Event) (p : Progress) where
  -- nothing happens after a stop
  pub stopped_done : is_some p.stop ≡ true → IsDone (λ limit. try_event rules s limit e p) p
  stopped_done h = same_done (λ limit. p) (λ limit. try_event rules s limit e p) (λ limit. sym (ap (λ b. cond b p (cond (is_full limit p.events) (record p { stop = Some Limit }) (after_refusal (refusal rules s e p.state) e (change rules s e p.state) p))) h)) p (nothing_done p)

  -- an event that isn't refused stands, and another stops
  tried : (v : Option Fault) (c : State) → p.stop ≡ None → IsDone (λ limit. cond (is_full limit p.events) (record p { stop = Some Limit }) (after_refusal v e c p)) (moved e (stepped v c) p)
  tried (Some fault) c none = record {
    whole = refl;
    within = λ small going n le. absurd (true≢false (ap is_some going));
    first = record {
      state = λ small. at (nat_le p.events p.events);
      events = λ small. at_events (nat_le p.events p.events);
    };
  }
    where
      at : (b : Bool) → (cond b (record p { stop = Some Limit }) (after_refusal (Some fault) e c p)).state ≡ p.state
      at true = refl
      at false = refl

      at_events : (b : Bool) → (cond b (record p { stop = Some Limit }) (after_refusal (Some fault) e c p)).events ≡ p.events
      at_events true = refl
      at_events false = refl
  tried None c none = record {
    whole = refl;
    within = λ small going n le. ap (λ b. cond b (record p { stop = Some Limit }) (after_refusal None e c p)) (below n small le);
    first = record {
      state = λ small. ap (λ b. (cond b (record p { stop = Some Limit }) (after_refusal None e c p)).state) (below (counted p.events) small (le_refl _));
      events = λ small. ap (λ b. (cond b (record p { stop = Some Limit }) (after_refusal None e c p)).events) (below (counted p.events) small (le_refl _));
    };
  }
    where
      below : (n : ℕ) → counted p.events < 2 ^ 64 - 1 → counted p.events ≤ n → nat_le n p.events ≡ false
      below n small le = let l : p.events < n = omega arith in grind (arith, nat_tests)

  module _ (o : Stepped) (q : Progress) (comes : o ≡ come_to rules s e p.state) (is : q ≡ moved e o p) (none : is_some p.stop ≡ false) where
    no_stop : p.stop ≡ None
    no_stop = none_or p.stop (p.stop ≡ None) (λ h. h) (λ h. absurd (true≢false (sym h ∙ none)))

    is_moved : moved e (come_to rules s e p.state) p ≡ q
    is_moved = ap (λ x. moved e x p) (sym comes) ∙ sym is

    pub event_done : IsDone (λ limit. try_event rules s limit e p) q
    event_done =
        subst (IsDone (λ limit. try_event rules s limit e p)) is_moved
        (same_done (λ limit. cond (is_full limit p.events) (record p { stop = Some Limit }) (after_refusal (refusal rules s e p.state) e (change rules s e p.state) p)) (λ limit. try_event rules s limit e p)
        (λ limit. sym (ap (λ b. cond b p (cond (is_full limit p.events) (record p { stop = Some Limit }) (after_refusal (refusal rules s e p.state) e (change rules s e p.state) p))) none))
        (moved e (come_to rules s e p.state) p) (tried (refusal rules s e p.state) (change rules s e p.state) no_stop))

    kept_in : (P : State → Type 0) → P p.state → (v : Option Fault) → refusal rules s e p.state ≡ v → P (step rules s e p.state) → P (moved e (stepped v (change rules s e p.state)) p).state
    unfolding step
    kept_in P h None is st = subst P (ap (λ v. cond (is_some v) p.state (change rules s e p.state)) is) st
    kept_in P h (Some x) is st = h

    more : (v : Option Fault) (c : State) → (moved e (stepped v c) p).events < 2 ^ 64 - 1 → p.events ≤ (moved e (stepped v c) p).events
    more None c small = omega arith
    more (Some x) c small = le_refl _

    -- an event that stands is one more
    within : (most : ℕ) (v : Option Fault) (c : State) → p.events < most → (moved e (stepped v c) p).events ≤ most
    within most None c room = omega arith
    within most (Some x) c room = omega arith

    pub event_within : (most : ℕ) → p.events < most → q.events ≤ most
    event_within most room = subst (λ (x : Progress). x.events ≤ most) is_moved (within most (refusal rules s e p.state) (change rules s e p.state) room)

    pub event_goes : Goes rules p q
    event_goes =
        subst (Goes rules p) is_moved
        (record {
          events = more (refusal rules s e p.state) (change rules s e p.state);
          sound = λ h. kept_in (Sound rules) h (refusal rules s e p.state) refl (run_kept rules s (e ∷ []) p.state h);
          stopped = λ h. absurd (true≢false (sym h ∙ none));
        })

-- ---- loops over parts

-- what is left from p on, joined to what was done, is the whole part f
pub record Leads (rules : Rules) (f : Part) (p : Progress) (g : Option ℕ → Progress → Progress) : Type 0 where
  pub done : (new : Progress) → Goes rules p new → IsDone (λ limit. g limit p) new → IsDone f new
  pub cut : (new : Progress) → Goes rules p new → IsCut (λ limit. g limit p) new → IsCut f new

pub leads_all : (rules : Rules) (p : Progress) (g : Option ℕ → Progress → Progress) → Leads rules (λ limit. g limit p) p g
leads_all rules p g = record { done = λ new goes h. h; cut = λ new goes h. h }

-- the next part was done
pub leads_on : (rules : Rules) (f : Part) (p q : Progress) (g h : Option ℕ → Progress → Progress) → Stays h → Goes rules p q → Leads rules f p (λ limit x. h limit (g limit x)) → IsDone (λ limit. g limit p) q → Leads rules f q h
leads_on rules f p q g h stays goes leads done = record {
  done = λ new n x. leads.done new (goes_on rules p q new goes n) (done_done rules (λ limit. g limit p) h stays q done new n x);
  cut = λ new n x. leads.cut new (goes_on rules p q new goes n) (done_cut rules (λ limit. g limit p) h stays q done new n x);
}

-- the next part was cut
pub leads_cut : (rules : Rules) (f : Part) (p q : Progress) (g h : Option ℕ → Progress → Progress) → Stays h → Goes rules p q → Leads rules f p (λ limit x. h limit (g limit x)) → IsCut (λ limit. g limit p) q → IsCut f q
leads_cut rules f p q g h stays goes leads cut = leads.cut q goes (cut_then (λ limit. g limit p) h stays q cut)

pub came_same : {A E : Type 0} (r : Result A E) (f g : Part) → ((limit : Option ℕ) → f limit ≡ g limit) → (new : Progress) → Came r f new → Came r g new
came_same (Ok x) f g e new h = same_done f g e new h
came_same (Err x) f g e new h = same_cut f g e new h

-- rounds are counted beside what goes
pub counted_goes : (rules : Rules) (p q : Progress) (k : ℕ) → p.stop ≡ None → Goes rules (record p { rounds = k }) q → Goes rules p q
counted_goes rules p q k none h = record { events = h.events; sound = h.sound; stopped = λ s. absurd (true≢false (sym s ∙ ap is_some none)) }
