-- What a settle answers.
use Rattle.std.proofs.Common.{arith, ◌≡◌, ℕ, ◌-◌, ◌^◌, ◌<◌, ◌≤◌, refl, sym, ap, ◌∙◌, subst, le_refl}
use Rattle.std.specs.declared.option.Option.{Option}
use Rattle.std.specs.declared.option.Option.TheVariants.{None, Some}
use Rattle.std.specs.declared.result.Result.{Result}
use Rattle.std.specs.declared.result.Result.TheVariants.{Ok, Err}
use Rattle.cat_model.specs.declared.types.Fault.{Fault}
use Rattle.cat_model.specs.declared.types.Fault.TheVariants.{OldSerial, NotFound, TooLarge, Spent}
use Rattle.cat_model.specs.declared.types.Progress.{Progress}
use Rattle.cat_model.specs.declared.types.Settings.{Settings}
use Rattle.cat_model.specs.declared.types.State.{State}
use Rattle.cat_model.specs.declared.types.Stop.{Stop}
use Rattle.cat_model.specs.declared.types.Stop.TheVariants.{Refused as StopRefused, Limit}
use Rattle.cat_model.specs.Catalogue.{Rules}
use Rattle.cat_model.specs.Reply.{counts}
use Rattle.cat_model.specs.Settle.{not_begun, try_rounds, try_settle, width}
use Rattle.cat_model.specs.Sound.{AreBegun, AreSmall, Quiet, Sound}
use Rattle.cat_laws.proofs.Stands.{settle_keeps}
use Rattle.cat_laws.proofs.Tried.{unstopped_quiet}
use Rattle.cat_settle.specs.Part.{Came, IsCut, IsDone}
use Rattle.cat_settle.proofs.Stays.{marks_stays, rounds_stays}
use Rattle.cat_core.specs.Answer.{IsCause, IsSettled, IsWhole, core_fault, settle_answer, stop_answer}

cause_is : (fault : Fault) (stop : Option Stop) → stop ≡ Some (StopRefused fault) → IsCause (core_fault fault) stop
cause_is (OldSerial n) stop h = h
cause_is NotFound stop h = h
cause_is (TooLarge n) stop h = h
cause_is (Spent c) stop h = h

whole_is : (fault : Fault) (q : Progress) (n : State) (e : ℕ) → q.state ≡ n → q.events ≡ e → IsWhole (core_fault fault) q n e
whole_is (OldSerial k) q n e a b = (a, b)
whole_is NotFound q n e a b = (a, b)
whole_is (TooLarge k) q n e a b = (a, b)
whole_is (Spent c) q n e a b = (a, b)

module _ (rules : Rules) (s : Settings) (now : ℕ) (m : State) where
  -- the counters stay at least 1
  pub settled_begun : {A E : Type 0} (came : Result A E) (p : Progress) → p.events < 2 ^ 64 - 1 → Came came (λ limit. try_settle rules s now limit m) p → AreBegun m → AreBegun p.state
  settled_begun (Ok x) p few h begun = subst AreBegun (ap (λ (q : Progress). q.state) h.whole) ((settle_keeps rules s now None m).begun begun)
  settled_begun (Err e) p few h begun = subst AreBegun (h.state few) ((settle_keeps rules s now (Some p.events) m).begun begun)

  module _ (later : 1 ≤ s.interval) (sound : Sound rules m) where
    stopped : (p : Progress) → p.events < 2 ^ 64 - 1 → (done : IsDone (λ limit. try_settle rules s now limit m) p) (v : Option Stop) → p.stop ≡ v → IsSettled rules s now m (stop_answer p v) p.state
    stopped p few done None h =
        let w = done.whole in
        record {
          state = ap (λ (q : Progress). q.state) (sym w);
          counts = ap counts (sym w);
          quiet = subst (λ (q : Progress). Quiet q.state now) w (unstopped_quiet rules s None now later m sound (ap (λ (q : Progress). q.stop) w ∙ h));
          ended = ap (λ (q : Progress). q.stop) w ∙ h;
          cut = tt;
        }
    stopped p few done (Some (StopRefused fault)) h =
        record { state = tt; counts = tt; quiet = tt; ended = tt; cut = record { state = done.first.state few; events = done.first.events few; cause = cause_is fault (try_settle rules s now None m).stop (ap (λ (q : Progress). q.stop) done.whole ∙ h); whole = whole_is fault (try_settle rules s now None m) p.state p.events (ap (λ (q : Progress). q.state) done.whole) (ap (λ (q : Progress). q.events) done.whole) } }
    stopped p few done (Some Limit) h =
        record { state = tt; counts = tt; quiet = tt; ended = tt; cut = record { state = done.first.state few; events = done.first.events few; cause = tt; whole = tt } }

    pub settles : {A E : Type 0} (came : Result A E) (p : Progress) → p.events < 2 ^ 64 - 1 → Came came (λ limit. try_settle rules s now limit m) p → IsSettled rules s now m (settle_answer came p) p.state
    settles (Ok x) p few h = stopped p few h p.stop refl
    settles (Err e) p few h = record { state = tt; counts = tt; quiet = tt; ended = tt; cut = record { state = h.state few; events = h.events few; cause = tt; whole = tt } }

-- just the first events stand of what was done, or cut
pub first_events : {A E : Type 0} (rules : Rules) (s : Settings) (now : ℕ) (m : State) (came : Result A E) (p : Progress) → p.events < 2 ^ 64 - 1 → Came came (λ limit. try_settle rules s now limit m) p → IsCut (λ limit. try_settle rules s now limit m) p
first_events rules s now m (Ok x) p few h = h.first
first_events rules s now m (Err e) p few h = h

-- a progress that isn't begun, of a given state
pub begun_small : (p : Progress) (m : State) → p ≡ not_begun m → AreSmall m → AreSmall p.state
begun_small p m e h = subst AreSmall (ap (λ (q : Progress). q.state) (sym e)) h

pub begun_sound : (rules : Rules) (p : Progress) (m : State) → p ≡ not_begun m → Sound rules m → Sound rules p.state
begun_sound rules p m e h = subst (Sound rules) (ap (λ (q : Progress). q.state) (sym e)) h

pub begun_still : (p : Progress) (m : State) → p ≡ not_begun m → p ≡ not_begun p.state
begun_still p m e = e ∙ ap not_begun (sym (ap (λ (q : Progress). q.state) e))

-- a progress that isn't begun has few events
pub begun_within : (most : ℕ) (p : Progress) (m : State) → p ≡ not_begun m → p.events ≤ most
begun_within most p m e = let z : p.events ≡ 0 = ap (λ (q : Progress). q.events) e in omega arith

-- and so has what keeps to a limit below the greatest number
pub few_events : (most : ℕ) (p : Progress) → p.events ≤ most → most < 2 ^ 64 - 1 → p.events < 2 ^ 64 - 1
few_events most p within few = omega arith

module _ (rules : Rules) (s : Settings) (now : ℕ) (m : State) where
  -- a settle that may have no event leaves its state
  no_events : (try_settle rules s now (Some 0) m).state ≡ m
  unfolding try_settle
  no_events =
      let k = width rules m in
      let p = try_rounds rules s now (Some 0) k (not_begun m) in
      (marks_stays rules s).state 0 p (omega arith) ∙ (rounds_stays rules s now k).state 0 (not_begun m) (le_refl _)

  -- so one of which no event stands has left it
  pub none_stand : (events : ℕ) (n : State) → events ≡ 0 → n ≡ (try_settle rules s now (Some events) m).state → n ≡ m
  none_stand events n none is = is ∙ (ap (λ k. (try_settle rules s now (Some k) m).state) none ∙ no_events)
