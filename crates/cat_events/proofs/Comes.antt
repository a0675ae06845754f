-- What a call makes of a state and its links, where a step is what the event comes to.
use Rattle.std.proofs.Common.{◌≡◌, cond, is_some, [], ◌∷◌, IfOk, refl, sym, ap, subst, ◌∙◌}
use Rattle.std.specs.declared.option.Option.{Option}
use Rattle.std.specs.declared.option.Option.TheVariants.{None, Some}
use Rattle.std.specs.declared.result.Result.{Result}
use Rattle.std.specs.declared.result.Result.TheVariants.{Ok, Err}
use Rattle.cat_links.specs.Links.{Emitted}
use Rattle.cat_plan.specs.Linked.{AreLinked}
use Rattle.cat_model.specs.declared.types.Fault.{Fault}
use Rattle.cat_model.specs.declared.types.Settings.{Settings}
use Rattle.cat_model.specs.declared.types.State.{State}
use Rattle.cat_model.specs.Catalogue.{Rules}
use Rattle.cat_model.specs.Sound.{AreOrdered, AreSmall, Sound}
use Rattle.cat_model.specs.Step.{Event, change, refusal, step}
use Rattle.cat_laws.proofs.Ordered.{step_ordered}
use Rattle.cat_laws.proofs.Steps.{run_kept, step_small}
use Rattle.cat_events.specs.Coming.{HasCome, IsLinkedStep, IsSteady, came_fault, came_state, links_after, links_in, seen, state_after}
use Rattle.cat_events.specs.Stepped.{come_to, stepped}
use Rattle.cat_events.specs.declared.stepped.Step.{Step}
use Rattle.cat_events.specs.declared.stepped.Step.TheVariants.{Refused, Acts}

module _ (rules : Rules) (s : Settings) (e : Event) (m : State) where
  -- the state that an event comes to is that of its step
  pub step_is : came_state (come_to rules s e m) m ≡ step rules s e m
  unfolding step
  step_is = go (refusal rules s e m)
    where
      go : (v : Option Fault) → came_state (stepped v (change rules s e m)) m ≡ cond (is_some v) m (change rules s e m)
      go None = refl
      go (Some fault) = refl

  -- what holds between two events holds after one, where the links are those of its state
  pub steady_step : (links links' : Emitted) → IsSteady rules links m → AreLinked rules links' (came_state (come_to rules s e m) m) → IsSteady rules links' (came_state (come_to rules s e m) m)
  steady_step links links' h linked = record {
    sound = subst (Sound rules) (sym step_is) (run_kept rules s (e ∷ []) m h.sound);
    small = subst AreSmall (sym step_is) (step_small rules s e m h.small);
    ordered = subst AreOrdered (sym step_is) (step_ordered rules s e m h.ordered);
    linked = linked;
  }

  linked_in : (links : Emitted) (o : Step) → IsSteady rules links m → IsLinkedStep rules o m → AreLinked rules (links_in o links) (came_state (seen o m) m)
  linked_in links (Refused fault) h linked = h.linked
  linked_in links (Acts plan) h linked = linked

  -- a step was taken in
  come_in : {E : Type 0} (links links' : Emitted) (o : Step) (answer : Option Fault) (n : State) → IsSteady rules links m → seen o m ≡ come_to rules s e m → IsLinkedStep rules o m
      → n ≡ came_state (seen o m) m → links' ≡ links_in o links → answer ≡ came_fault (seen o m) → HasCome {E = E} rules (come_to rules s e m) (Ok answer) m n links'
  come_in links links' o answer n h is linked en el ea =
      let state : n ≡ came_state (come_to rules s e m) m = en ∙ ap (λ c. came_state c m) is in
      let kept : AreLinked rules links' (came_state (come_to rules s e m) m) =
      subst (λ l. AreLinked rules l (came_state (come_to rules s e m) m)) (sym el) (subst (λ c. AreLinked rules (links_in o links) (came_state c m)) is (linked_in links o h linked)) in
      record {
        state = state;
        fault = ea ∙ ap came_fault is;
        steady = subst (IsSteady rules links') (sym state) (steady_step links links' h kept);
      }

  -- a step was to be taken in: it was, or memory was wanted and nothing was changed
  pub came_in : {E : Type 0} (links links' : Emitted) (o : Step) (answer : Result (Option Fault) E) (n : State) → IsSteady rules links m → seen o m ≡ come_to rules s e m → IsLinkedStep rules o m
      → n ≡ state_after answer (seen o m) m → links' ≡ links_after answer o links → IfOk answer (λ f. f ≡ came_fault (seen o m)) → HasCome rules (come_to rules s e m) answer m n links'
  came_in links links' o (Ok answer) n h is linked en el ef = come_in links links' o answer n h is linked en el ef
  came_in links links' o (Err x) n h is linked en el ef = record {
    state = en;
    fault = tt;
    steady = subst (IsSteady rules links') (sym en) (subst (λ l. IsSteady rules l m) (sym el) h);
  }

  -- nothing was changed for want of memory
  pub nothing_came : {E : Type 0} (links : Emitted) (x : E) → IsSteady rules links m → HasCome rules (come_to rules s e m) (Err x) m m links
  nothing_came links x h = record { state = refl; fault = tt; steady = h }
