-- What the reply to a settle tells.
use Rattle.std.proofs.Common.{◌≡◌, ℕ, ◌^◌, ◌<◌, ◌≤◌, Bool, true, false, cond, List, [], ◌∷◌, ◌++◌, length, min, codes, refl, sym, ap, ◌∙◌, inl, inr, arith}
use Rattle.std.proofs.lemmas.Bool.{cases_lt}
use Rattle.std.proofs.lemmas.Fmt.{decimal_injective}
use Rattle.std.proofs.lemmas.List.{append_cancel_left, append_cancel_right}
use Rattle.std.specs.Fmt.{decimal}
use Rattle.std.specs.declared.option.Option.{Option}
use Rattle.std.specs.declared.option.Option.TheVariants.{None, Some}
use Rattle.cat_model.specs.Catalogue.{Rules}
use Rattle.cat_model.specs.Reply.{counts}
use Rattle.cat_model.specs.Settle.{IsSettleEvent, first_events, not_begun, try_settle, width}
use Rattle.cat_model.specs.Step.{Event, change, or_else, refusal, run, spent}
use Rattle.cat_model.specs.Step.Event.{Mutate, ShelfPut, ShelfDrop, Refresh, Forget, ForgetNumber, Take, TakeAt, Finish, PutStitch}
use Rattle.cat_model.specs.declared.types.Counter.{Counter}
use Rattle.cat_model.specs.declared.types.Counter.TheVariants.{Arrival, Number, Token, Ticket}
use Rattle.cat_model.specs.declared.types.Counts.{Counts}
use Rattle.cat_model.specs.declared.types.Fault.{Fault}
use Rattle.cat_model.specs.declared.types.Fault.TheVariants.{Spent}
use Rattle.cat_model.specs.declared.types.Progress.{Progress}
use Rattle.cat_model.specs.declared.types.Settings.{Settings}
use Rattle.cat_model.specs.declared.types.State.{State}
use Rattle.cat_model.specs.declared.types.Stop.{Stop}
use Rattle.cat_model.specs.declared.types.Stop.TheVariants.{Refused, Limit}
use Rattle.cat_laws.proofs.Cut.{first_events-all, has_events}
use Rattle.cat_laws.proofs.Plan.{Plan, Tries, at_event, exec, exec_settle, settle_plan, try_some}
use Rattle.cat_laws.proofs.Plan.Plan.{idle, act, look, both, begins}
use Rattle.cat_laws.proofs.Plan.Tries.{stopped, full, refused, acts}
use Rattle.cat_laws.proofs.Stands.{settle_refused_by}
use Rattle.cat_replies.specs.Events as say
use Rattle.cat_session_model.specs.Session.{cut_reply, stop_reply}

-- ---- texts

-- the first byte
unfoldable pub first : List ℕ → ℕ
first [] = 0
first (b ∷ bs) = b

-- texts with other first bytes differ
pub other_first : (s t : List ℕ) (a b : ℕ) → first s ≡ a → first t ≡ b → (a ≡ b → ⊥) → s ≡ t → ⊥
other_first s t a b f g other e = other (sym f ∙ (ap first e ∙ g))

-- the byte before the last one
before_end : List ℕ → ℕ
before_end [] = 0
before_end (a ∷ []) = 0
before_end (a ∷ b ∷ []) = a
before_end (a ∷ b ∷ c ∷ bs) = before_end (b ∷ c ∷ bs)

before_end-append : (xs : List ℕ) (a b : ℕ) (bs : List ℕ) → before_end (xs ++ a ∷ b ∷ bs) ≡ before_end (a ∷ b ∷ bs)
unfolding before_end
before_end-append [] a b bs = refl
before_end-append (x ∷ []) a b bs = refl
before_end-append (x ∷ y ∷ []) a b bs = refl
before_end-append (x ∷ y ∷ z ∷ xs) a b bs = before_end-append (y ∷ z ∷ xs) a b bs

memory_end : (n : ℕ) → before_end (say.cut_by_memory n) ≡ 121
unfolding before_end
memory_end n = before_end-append (codes "cut " ++ decimal n) 32 109 (codes "emory" ++ 10 ∷ [])

-- a cut for want of memory isn't told as one by a counter
pub counter_told : (k n : ℕ) (c : Counter) → say.cut_by_counter k c ≡ say.cut_by_memory n → ⊥
unfolding before_end
counter_told k n Arrival e =
    let f : 108 ≡ 121 = sym (before_end-append (codes "cut " ++ decimal k) 32 115 (codes "pent arrival" ++ 10 ∷ [])) ∙ (ap before_end e ∙ memory_end n) in
    omega (arith, f)
counter_told k n Number e =
    let f : 114 ≡ 121 = sym (before_end-append (codes "cut " ++ decimal k) 32 115 (codes "pent number" ++ 10 ∷ [])) ∙ (ap before_end e ∙ memory_end n) in
    omega (arith, f)
counter_told k n Token e =
    let f : 110 ≡ 121 = sym (before_end-append (codes "cut " ++ decimal k) 32 115 (codes "pent token" ++ 10 ∷ [])) ∙ (ap before_end e ∙ memory_end n) in
    omega (arith, f)
counter_told k n Ticket e =
    let f : 116 ≡ 121 = sym (before_end-append (codes "cut " ++ decimal k) 32 115 (codes "pent ticket" ++ 10 ∷ [])) ∙ (ap before_end e ∙ memory_end n) in
    omega (arith, f)

-- how many events stand is told
events_told : (k n : ℕ) → k < 2 ^ 64 → n < 2 ^ 64 → say.cut_by_memory k ≡ say.cut_by_memory n → k ≡ n
events_told k n small less e =
    decimal_injective k n small less
    (append_cancel_right (decimal k) (decimal n) (codes " memory" ++ 10 ∷ [])
    (append_cancel_left (codes "cut ") (decimal k ++ (codes " memory" ++ 10 ∷ [])) (decimal n ++ (codes " memory" ++ 10 ∷ [])) e))

-- ---- what stops a settle

some_is : {A : Type 0} {x y : A} → Some x ≡ Some y → x ≡ y
some_is e = cc

spent_by : (a b c d : Bool) (fault : Fault)
    → or_else (cond a (Some (Spent Arrival)) None) (or_else (cond b (Some (Spent Number)) None) (or_else (cond c (Some (Spent Token)) None) (cond d (Some (Spent Ticket)) None))) ≡ Some fault
    → (counter : Counter) × (fault ≡ Spent counter)
spent_by true b c d fault h = (Arrival, sym (some_is h))
spent_by false true c d fault h = (Number, sym (some_is h))
spent_by false false true d fault h = (Token, sym (some_is h))
spent_by false false false true fault h = (Ticket, sym (some_is h))
spent_by false false false false fault h = absurd cc

spent_is : (n : State) (fault : Fault) → spent n ≡ Some fault → (counter : Counter) × (fault ≡ Spent counter)
spent_is n fault h = spent_by _ _ _ _ fault h

-- a settle that isn't stopped isn't told as one that is cut
settled_told : (x : Counts) (n : ℕ) → say.settled x ≡ say.cut_by_memory n → ⊥
unfolding first
settled_told x n e = other_first (say.settled x) (say.cut_by_memory n) 115 99 refl refl (λ h. omega (arith, h)) e

-- what is stopped by no limit isn't told as cut for want of memory
stop_told : (p : Progress) (n : ℕ) (v : Option Stop) → (v ≡ Some Limit → ⊥) → ((fault : Fault) → v ≡ Some (Refused fault) → (counter : Counter) × (fault ≡ Spent counter))
    → stop_reply p v ≡ say.cut_by_memory n → ⊥
stop_told p n None never by_counter e = settled_told (counts p) n e
stop_told p n (Some (Refused fault)) never by_counter e = let x = by_counter fault refl in counter_told p.events n x.0 (ap (cut_reply p.events) (sym x.1) ∙ e)
stop_told p n (Some Limit) never by_counter e = never refl

module _ (rules : Rules) (s : Settings) where
  -- an event of a settle is refused only by a counter
  refused_spent : (now : ℕ) (e : Event) (m : State) (fault : Fault) → IsSettleEvent rules now m e → refusal rules s e m ≡ Some fault → (counter : Counter) × (fault ≡ Spent counter)
  refused_spent now (Mutate p x) m fault is h = absurd is
  refused_spent now (ShelfPut name text) m fault is h = absurd is
  refused_spent now (ShelfDrop name) m fault is h = absurd is
  refused_spent now (Refresh r) m fault is h = absurd is
  refused_spent now (Forget r) m fault is h = absurd is
  refused_spent now (ForgetNumber number) m fault is h = absurd is
  refused_spent now (Take moment) m fault is h = absurd is
  refused_spent now (TakeAt r moment) m fault is h = spent_is (change rules s (TakeAt r moment) m) fault h
  refused_spent now (Finish x moment) m fault is h = spent_is (change rules s (Finish x moment) m) fault h
  refused_spent now (PutStitch x) m fault is h = spent_is (change rules s (PutStitch x) m) fault h

  stopped_spent : (now : ℕ) (limit : Option ℕ) (m : State) (fault : Fault) → (try_settle rules s now limit m).stop ≡ Some (Refused fault) → (counter : Counter) × (fault ≡ Spent counter)
  stopped_spent now limit m fault h =
      let x = settle_refused_by rules s now limit m fault h in
      refused_spent now x.event (try_settle rules s now limit m).state fault x.is x.refused

  -- without a limit no limit stops it
  unlimited : (now : ℕ) (plan : Plan) (p : Progress) → (p.stop ≡ Some Limit → ⊥) → (exec rules s now None plan p).stop ≡ Some Limit → ⊥
  unlimited now idle p never h = never h
  unlimited now (act f) p never h = some (f p.state) h
    where
      at : (e : Event) (q : Progress) → Tries rules s now None e p q → q.stop ≡ Some Limit → ⊥
      at e q (stopped x is) h = never h
      at e q (full none all) h = cc
      at e q (refused fault none few is) h = cc
      at e q (acts none few is) h = never h

      some : (v : Option Event) → (try_some rules s now None v p).stop ≡ Some Limit → ⊥
      some None h = never h
      some (Some e) h = at e _ (at_event rules s now None e p) h
  unlimited now (look f) p never h = unlimited now (f p.state) p never h
  unlimited now (both a b) p never h = unlimited now b (exec rules s now None a p) (unlimited now a p never) h
  unlimited now begins p never h = never h

  settle_unlimited : (now : ℕ) (m : State) → (try_settle rules s now None m).stop ≡ Some Limit → ⊥
  settle_unlimited now m h =
      unlimited now (settle_plan rules s now (width rules m)) (not_begun m) (λ e. cc) (ap (λ (p : Progress). p.stop) (exec_settle rules s now None m) ∙ h)

  -- a whole settle isn't told as one that is cut for want of memory
  pub whole_told : (now : ℕ) (m : State) (n : ℕ) → stop_reply (try_settle rules s now None m) (try_settle rules s now None m).stop ≡ say.cut_by_memory n → ⊥
  whole_told now m n e = stop_told (try_settle rules s now None m) n (try_settle rules s now None m).stop (settle_unlimited now m) (λ fault is. stopped_spent now None m fault is) e

  -- ---- cut settles

  first_same : (k n : ℕ) (es : List Event) → min k (length es) ≡ min n (length es) → first_events k es ≡ first_events n es
  first_same k n es e =
      elim (cases_lt k (length es)) [
        | inl less ↦ (let is : k ≡ n = omega (arith, less, e) in ap (λ i. first_events i es) is)
        | inr more ↦ (let le : length es ≤ n = omega (arith, more, e) in first_events-all k es more ∙ sym (first_events-all n es le))
      ]

  -- where as many events stand, the states are the same
  pub cut_told : (now : ℕ) (m : State) (k n : ℕ) → k < 2 ^ 64 → n < 2 ^ 64
      → say.cut_by_memory (try_settle rules s now (Some k) m).events ≡ say.cut_by_memory (try_settle rules s now (Some n) m).events
      → (try_settle rules s now (Some k) m).state ≡ (try_settle rules s now (Some n) m).state
  cut_told now m k n small less e =
      let x = has_events rules s now m in
      let a = x.count k small in
      let b = x.count n less in
      let same = events_told (try_settle rules s now (Some k) m).events (try_settle rules s now (Some n) m).events (omega (arith, a, small)) (omega (arith, b, less)) e in
      x.cut k small ∙ (ap (λ es. run rules s es m) (first_same k n x.events (sym a ∙ (same ∙ b))) ∙ sym (x.cut n less))
