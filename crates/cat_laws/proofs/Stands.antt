-- What a settle keeps, stopped or not, and why it stops.
use Rattle.std.proofs.Common.{◌≡◌, ℕ, List, [], ◌∷◌, refl, sym, ap, subst, ◌∙◌, is_some, true≢false, arith}
use Rattle.std.specs.declared.option.Option.{Option}
use Rattle.std.specs.declared.option.Option.TheVariants.{None, Some}
use Rattle.cat_model.specs.declared.types.State.{State}
use Rattle.cat_model.specs.declared.types.Settings.{Settings}
use Rattle.cat_model.specs.declared.types.Fault.{Fault}
use Rattle.cat_model.specs.declared.types.Stop.{Stop}
use Rattle.cat_model.specs.declared.types.Stop.TheVariants.{Refused, Limit}
use Rattle.cat_model.specs.declared.types.Progress.{Progress}
use Rattle.cat_model.specs.Catalogue.{Ref, Rules}
use Rattle.cat_model.specs.Sound.{Sound, AreBegun, AreSmall}
use Rattle.cat_model.specs.Step.{Event, run}
use Rattle.cat_model.specs.Settle.{width, not_begun, try_event, try_turn, try_turns, try_round, try_rounds, try_stitches, try_settle, IsSettleEvent, IsRefusedBy}
use Rattle.cat_laws.proofs.Plan.{Plan, Tries, at_event, try_some, exec, turn_plan, turns_plan, round_plan, rounds_plan, stitches_plan, settle_plan, exec_turn, exec_turns, exec_round, exec_rounds, exec_stitches, exec_settle, exec_stopped}
use Rattle.cat_laws.proofs.Plan.Plan.{idle, act, look, both, begins}
use Rattle.cat_laws.proofs.Plan.Tries.{stopped, full, refused, acts}
use Rattle.cat_laws.proofs.Cut.{Fits, fits_turns, fits_round, fits_rounds, fits_stitches, fits_settle, Extends, exec_extends}
use Rattle.cat_laws.proofs.Steps.{run_kept, run_small}
use Rattle.cat_laws.proofs.Counters.{run_begun}

module _ (rules : Rules) (s : Settings) (now : ℕ) (limit : Option ℕ) where
  -- q has what p has between two events
  pub record Keeps (p q : Progress) : Type 0 where
    pub sound : Sound rules p.state → Sound rules q.state
    pub small : AreSmall p.state → AreSmall q.state
    pub begun : AreBegun p.state → AreBegun q.state

  extends_keeps : (p q : Progress) → Extends rules s now p q → Keeps p q
  extends_keeps p q x = record {
    sound = λ h. subst (Sound rules) (sym x.state) (run_kept rules s x.events p.state h);
    small = λ h. subst AreSmall (sym x.state) (run_small rules s x.events p.state h);
    begun = λ h. subst AreBegun (sym x.state) (run_begun rules s x.events p.state h);
  }

  pub turn_keeps : (r : Ref) (p : Progress) → Keeps p (try_turn rules s now limit r p)
  turn_keeps r p = subst (Keeps p) (exec_turn rules s now limit r p) (extends_keeps p _ (exec_extends rules s now limit (turn_plan rules s now r) (fits_turns rules s now (r ∷ [])).0 p))

  pub turns_keep : (rs : List Ref) (p : Progress) → Keeps p (try_turns rules s now limit rs p)
  turns_keep rs p = subst (Keeps p) (exec_turns rules s now limit rs p) (extends_keeps p _ (exec_extends rules s now limit (turns_plan rules s now rs) (fits_turns rules s now rs) p))

  pub round_keeps : (p : Progress) → Keeps p (try_round rules s now limit p)
  round_keeps p = subst (Keeps p) (exec_round rules s now limit p) (extends_keeps p _ (exec_extends rules s now limit (round_plan rules s now) (fits_round rules s now) p))

  pub rounds_keep : (n : ℕ) (p : Progress) → Keeps p (try_rounds rules s now limit n p)
  rounds_keep n p = subst (Keeps p) (exec_rounds rules s now limit n p) (extends_keeps p _ (exec_extends rules s now limit (rounds_plan rules s now n) (fits_rounds rules s now n) p))

  pub stitches_keep : (rs : List Ref) (p : Progress) → Keeps p (try_stitches rules s limit rs p)
  stitches_keep rs p = subst (Keeps p) (exec_stitches rules s now limit rs p) (extends_keeps p _ (exec_extends rules s now limit (stitches_plan rules s now rs) (fits_stitches rules s now rs) p))

  pub settle_keeps : (m : State) → Keeps (not_begun m) (try_settle rules s now limit m)
  settle_keeps m = subst (Keeps (not_begun m)) (exec_settle rules s now limit m) (extends_keeps (not_begun m) _ (exec_extends rules s now limit (settle_plan rules s now (width rules m)) (fits_settle rules s now (width rules m)) (not_begun m)))

  -- a settle comes to where its events come to
  pub settle_runs : (m : State) → (events : List Event) × ((try_settle rules s now limit m).state ≡ run rules s events m)
  settle_runs m =
      let x = exec_extends rules s now limit (settle_plan rules s now (width rules m)) (fits_settle rules s now (width rules m)) (not_begun m) in
      (x.events, ap (λ (q : Progress). q.state) (sym (exec_settle rules s now limit m)) ∙ x.state)

  -- what is refused is an event of a settle
  refused_by : (plan : Plan) → Fits rules s now plan → (p : Progress) → p.stop ≡ None → (fault : Fault) → (exec rules s now limit plan p).stop ≡ Some (Refused fault) → IsRefusedBy rules s now (exec rules s now limit plan p).state fault
  refused_by idle fits p unstopped fault h = absurd (true≢false (ap is_some (sym h ∙ unstopped)))
  refused_by (act f) fits p unstopped fault h = some (f p.state) (fits p.state) h
    where
      at : (e : Event) → IsSettleEvent rules now p.state e → (q : Progress) → Tries rules s now limit e p q → q.stop ≡ Some (Refused fault) → IsRefusedBy rules s now q.state fault
      at e is q (stopped x f) h = absurd (true≢false (ap is_some (sym f ∙ unstopped)))
      at e is q (full f g) h = absurd (limit_not h)
        where
          limit_not : Some Limit ≡ Some (Refused fault) → ⊥
          limit_not h = grind arith
      at e is q (refused x f g i) h = record { event = e; is = is; refused = i ∙ same h }
        where
          same : Some (Refused x) ≡ Some (Refused fault) → Some x ≡ Some fault
          same h = cc
      at e is q (acts f g i) h = absurd (true≢false (ap is_some (sym h ∙ unstopped)))

      some : (v : Option Event) → ((e : Event) → v ≡ Some e → IsSettleEvent rules now p.state e) → (try_some rules s now limit v p).stop ≡ Some (Refused fault) → IsRefusedBy rules s now (try_some rules s now limit v p).state fault
      some None is h = absurd (true≢false (ap is_some (sym h ∙ unstopped)))
      some (Some e) is h = at e (is e refl) (try_event rules s limit e p) (at_event rules s now limit e p) h
  refused_by (look f) fits p unstopped fault h = refused_by (f p.state) (fits p.state) p unstopped fault h
  refused_by (both a b) fits p unstopped fault h =
      go (exec rules s now limit a p).stop refl
      (λ e. refused_by a fits.0 p unstopped fault (ap (λ (q : Progress). q.stop) e ∙ h))
      (λ none. refused_by b fits.1 (exec rules s now limit a p) none fault h)
    where
      go : (v : Option Stop) → (exec rules s now limit a p).stop ≡ v
          → (exec rules s now limit a p ≡ exec rules s now limit b (exec rules s now limit a p) → IsRefusedBy rules s now (exec rules s now limit a p).state fault)
          → ((exec rules s now limit a p).stop ≡ None → IsRefusedBy rules s now (exec rules s now limit b (exec rules s now limit a p)).state fault)
          → IsRefusedBy rules s now (exec rules s now limit b (exec rules s now limit a p)).state fault
      go None f before after = after f
      go (Some x) f before after = let same = exec_stopped rules s now limit b (exec rules s now limit a p) x f in
          subst (λ (q : Progress). IsRefusedBy rules s now q.state fault) (sym same) (before (sym same))
  refused_by begins fits p unstopped fault h = absurd (true≢false (ap is_some (sym h ∙ unstopped)))

  pub settle_refused_by : (m : State) (fault : Fault) → (try_settle rules s now limit m).stop ≡ Some (Refused fault) → IsRefusedBy rules s now (try_settle rules s now limit m).state fault
  settle_refused_by m fault h =
      let e = exec_settle rules s now limit m in
      subst (λ (q : Progress). IsRefusedBy rules s now q.state fault) e
      (refused_by (settle_plan rules s now (width rules m)) (fits_settle rules s now (width rules m)) (not_begun m) refl fault (ap (λ (q : Progress). q.stop) e ∙ h))
