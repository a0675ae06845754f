-- A settle that is cut has just the first of its events.
use Rattle.std.proofs.Common.{◌≡◌, ℕ, zero, suc, ◌+◌, ◌-◌, ◌^◌, ◌<◌, ◌≤◌, Bool, true, false, cond, ◌&&◌, ◌⊎◌, inl, inr, ⊎_elim, List, [], ◌∷◌, ◌++◌, length, refl, sym, ap, subst, ◌∙◌, is_some, is_none, min, unwrap_or, true≢false, arith}
use Rattle.std.specs.Prelude.{⊤}
use Rattle.std.specs.declared.option.Option.{Option}
use Rattle.std.specs.declared.option.Option.TheVariants.{None, Some}
use Rattle.std.specs.Option.{option_map, option_and_then}
use Rattle.std.proofs.lemmas.Bool.Decides.{nat_tests}
use Rattle.cat_collections.specs.Table.{get}
use Rattle.cat_model.specs.declared.types.State.{State}
use Rattle.cat_model.specs.declared.types.Record.{Record}
use Rattle.cat_model.specs.declared.types.Lease.{Lease}
use Rattle.cat_types.specs.declared.work.Work.{Work}
use Rattle.cat_types.specs.declared.parts.Parts.{Parts}
use Rattle.cat_model.specs.declared.types.Settings.{Settings}
use Rattle.cat_model.specs.declared.types.Order.{Order}
use Rattle.cat_model.specs.declared.types.StitchOrder.{StitchOrder}
use Rattle.cat_model.specs.declared.types.Fault.{Fault}
use Rattle.cat_model.specs.declared.types.Stop.{Stop}
use Rattle.cat_model.specs.declared.types.Stop.TheVariants.{Refused, Limit}
use Rattle.cat_model.specs.declared.types.Progress.{Progress}
use Rattle.cat_model.specs.Catalogue.{Ref, Rules, work, parts}
use Rattle.cat_model.specs.Step.{Event, change, refusal, step, run}
use Rattle.cat_model.specs.Step.Event.{TakeAt, Finish, PutStitch}
use Rattle.cat_model.specs.Settle.{is_due, order, order_with, due_refs, by_ticket, width, counted, stood, is_full, try_event, mark_order, stitch_order, not_begun, try_settle, begun_round, IsSettleEvent, AreSettleEvents, first_events, HasEvents}
use Rattle.cat_laws.proofs.Plan.{Plan, Tries, at_event, try_some, exec, take_event, finish_event, stitch_event, turns_plan, round_plan, rounds_plan, stitches_plan, settle_plan, exec_settle, exec_stopped}
use Rattle.cat_laws.proofs.Plan.Plan.{idle, act, look, both, begins}
use Rattle.cat_laws.proofs.Plan.Tries.{stopped, full, refused, acts}
use Rattle.cat_laws.proofs.Ended.{counted_by, counted_by-min}

-- ---- lists of events

pub first_events-all : (n : ℕ) (es : List Event) → length es ≤ n → first_events n es ≡ es
first_events-all zero [] h = refl
first_events-all zero (e ∷ es) h = absurd (omega arith)
first_events-all (suc n) [] h = refl
first_events-all (suc n) (e ∷ es) h = ap (λ fs. e ∷ fs) (first_events-all n es (omega arith))

pub first_events-append : (n : ℕ) (es fs : List Event) → n ≤ length es → first_events n (es ++ fs) ≡ first_events n es
first_events-append zero es fs h = refl
first_events-append (suc n) [] fs h = absurd (omega arith)
first_events-append (suc n) (e ∷ es) fs h = ap (λ gs. e ∷ gs) (first_events-append n es fs (omega arith))

length-append : (es fs : List Event) → length (es ++ fs) ≡ length es + length fs
length-append [] fs = omega arith
length-append (e ∷ es) fs = let ih = length-append es fs in omega arith

counted_by-append : (es fs : List Event) (k : ℕ) → counted_by (length (es ++ fs)) k ≡ counted_by (length fs) (counted_by (length es) k)
counted_by-append [] fs k = refl
counted_by-append (e ∷ es) fs k = counted_by-append es fs (counted k)

module _ (rules : Rules) (s : Settings) where
  pub step_acts : (e : Event) (m : State) → refusal rules s e m ≡ None → step rules s e m ≡ change rules s e m
  unfolding step
  step_acts e m h = ap (λ v. cond (is_some v) m (change rules s e m)) h

  pub run-append : (es fs : List Event) (m : State) → run rules s (es ++ fs) m ≡ run rules s fs (run rules s es m)
  run-append [] fs m = refl
  run-append (e ∷ es) fs m = run-append es fs (step rules s e m)

  module _ (now : ℕ) where
    are-append : (es fs : List Event) (m : State) → AreSettleEvents rules s now m es → AreSettleEvents rules s now (run rules s es m) fs → AreSettleEvents rules s now m (es ++ fs)
    are-append [] fs m a b = b
    are-append (e ∷ es) fs m a b = (a.0, a.1, are-append es fs (step rules s e m) a.2 b)

    -- each event of a plan is one of a settle
    abbrev pub Fits : Plan → Type 0
    Fits idle = ⊤
    Fits (act f) = (m : State) (e : Event) → f m ≡ Some e → IsSettleEvent rules now m e
    Fits (look f) = (m : State) → Fits (f m)
    Fits (both a b) = Fits a × Fits b
    Fits begins = ⊤

    some_same : {A : Type 0} (x y : A) → Some x ≡ Some y → x ≡ y
    some_same x y h = ap (λ v. unwrap_or v x) h

    fits_take : (r : Ref) → Fits (act (take_event rules s now r))
    fits_take r m e h = go (is_due now (get m.records r)) refl h
      where
        go : (b : Bool) → is_due now (get m.records r) ≡ b → cond b (Some (TakeAt r now)) None ≡ Some e → IsSettleEvent rules now m e
        go true d h = subst (IsSettleEvent rules now m) (some_same (TakeAt r now) e h) (refl, d)
        go false d h = absurd (true≢false (sym (ap is_some h)))

    order_reference : (r : Ref) (lease : Option Lease) (w : Option Work) (x : Order) → order_with r lease w ≡ Some x → x.reference ≡ r
    order_reference r None w x h = absurd (true≢false (sym (ap is_some h)))
    order_reference r (Some lease) None x h = absurd (true≢false (sym (ap is_some h)))
    order_reference r (Some lease) (Some w) x h = ap (λ v. (unwrap_or v x).reference) (sym h)

    fits_finish : (r : Ref) → Fits (act (finish_event rules s now r))
    fits_finish r m e h = go (is_due now (get m.records r)) refl h
      where
        at : is_due now (get m.records r) ≡ true → (v : Option Order) → order rules m r ≡ v → option_map (λ x. Finish x now) v ≡ Some e → IsSettleEvent rules now m e
        at d None o h = absurd (true≢false (sym (ap is_some h)))
        at d (Some x) o h =
            let same : x.reference ≡ r = order_reference r (option_and_then (λ (x : Record). x.lease) (get m.records r)) (work rules m r) x o in
            subst (IsSettleEvent rules now m) (some_same (Finish x now) e h)
            (refl, ap (λ q. is_due now (get m.records q)) same ∙ d, ap (order rules m) same ∙ o)

        go : (b : Bool) → is_due now (get m.records r) ≡ b → cond b (option_map (λ x. Finish x now) (order rules m r)) None ≡ Some e → IsSettleEvent rules now m e
        go true d h = at d (order rules m r) refl h
        go false d h = absurd (true≢false (sym (ap is_some h)))

    stitch_reference : (m : State) (r : Ref) (mark : Option ℕ) (p : Option Parts) (x : StitchOrder) → stitch_order rules m r mark p ≡ Some x → x.reference ≡ r
    stitch_reference m r None p x h = absurd (true≢false (sym (ap is_some h)))
    stitch_reference m r (Some ticket) None x h = absurd (true≢false (sym (ap is_some h)))
    stitch_reference m r (Some ticket) (Some p) x h = ap (λ v. (unwrap_or v x).reference) (sym h)

    fits_stitch : (r : Ref) → Fits (act (stitch_event rules s now r))
    fits_stitch r m e h = at (mark_order rules m r) refl h
      where
        at : (v : Option StitchOrder) → mark_order rules m r ≡ v → option_map PutStitch v ≡ Some e → IsSettleEvent rules now m e
        at None o h = absurd (true≢false (sym (ap is_some h)))
        at (Some x) o h =
            let same : x.reference ≡ r = stitch_reference m r (get m.marks r) (parts rules m r) x o in
            subst (IsSettleEvent rules now m) (some_same (PutStitch x) e h) (ap (mark_order rules m) same ∙ o)

    pub fits_turns : (rs : List Ref) → Fits (turns_plan rules s now rs)
    fits_turns [] = tt
    fits_turns (r ∷ rs) = ((fits_take r, fits_finish r), fits_turns rs)

    pub fits_round : Fits (round_plan rules s now)
    fits_round m = (tt, fits_turns (due_refs now m))

    pub fits_rounds : (n : ℕ) → Fits (rounds_plan rules s now n)
    fits_rounds zero = tt
    fits_rounds (suc n) = (fits_round, fits_rounds n)

    pub fits_stitches : (rs : List Ref) → Fits (stitches_plan rules s now rs)
    fits_stitches [] = tt
    fits_stitches (r ∷ rs) = (fits_stitch r, fits_stitches rs)

    pub fits_settle : (w : ℕ) → Fits (settle_plan rules s now w)
    fits_settle w = (fits_rounds w, λ m. fits_stitches (by_ticket m.marks))

    -- q follows p by events of a settle
    pub record Extends (p q : Progress) : Type 0 where
      pub events : List Event
      pub are : AreSettleEvents rules s now p.state events
      pub state : q.state ≡ run rules s events p.state
      pub count : q.events ≡ counted_by (length events) p.events

    none_extends : (p q : Progress) → q.state ≡ p.state → q.events ≡ p.events → Extends p q
    none_extends p q e f = record { events = []; are = tt; state = e; count = f }

    extends_on : (p q r : Progress) → Extends p q → Extends q r → Extends p r
    extends_on p q r a b = record {
      events = a.events ++ b.events;
      are = are-append a.events b.events p.state a.are (subst (λ n. AreSettleEvents rules s now n b.events) a.state b.are);
      state = b.state ∙ ap (run rules s b.events) a.state ∙ sym (run-append a.events b.events p.state);
      count = b.count ∙ ap (counted_by (length b.events)) a.count ∙ sym (counted_by-append a.events b.events p.events);
    }

    pub exec_extends : (limit : Option ℕ) (plan : Plan) → Fits plan → (p : Progress) → Extends p (exec rules s now limit plan p)
    exec_extends limit idle fits p = none_extends p p refl refl
    exec_extends limit (act f) fits p = some (f p.state) refl
      where
        at : (e : Event) → f p.state ≡ Some e → (q : Progress) → Tries rules s now limit e p q → Extends p q
        at e is q (stopped x f) = none_extends p p refl refl
        at e is q (full f g) = none_extends p q refl refl
        at e is q (refused x f g h) = none_extends p q refl refl
        at e is q (acts f g h) = record { events = e ∷ []; are = (fits p.state e is, h, tt); state = sym (step_acts e p.state h); count = refl }

        some : (v : Option Event) → f p.state ≡ v → Extends p (try_some rules s now limit v p)
        some None is = none_extends p p refl refl
        some (Some e) is = at e is (try_event rules s limit e p) (at_event rules s now limit e p)
    exec_extends limit (look f) fits p = exec_extends limit (f p.state) (fits p.state) p
    exec_extends limit (both a b) fits p = extends_on p (exec rules s now limit a p) _ (exec_extends limit a fits.0 p) (exec_extends limit b fits.1 (exec rules s now limit a p))
    exec_extends limit begins fits p = none_extends p (begun_round now p) refl refl

    append-nil : (es : List Event) → es ++ [] ≡ es
    append-nil [] = refl
    append-nil (e ∷ es) = ap (λ fs. e ∷ fs) (append-nil es)

    append-assoc : (es fs gs : List Event) → (es ++ fs) ++ gs ≡ es ++ (fs ++ gs)
    append-assoc [] fs gs = refl
    append-assoc (e ∷ es) fs gs = ap (λ hs. e ∷ hs) (append-assoc es fs gs)

    abbrev pub may_act : Progress → Event → Bool
    may_act p e = is_none p.stop && is_none (refusal rules s e p.state)

    abbrev pub new_events : Option Event → Progress → List Event
    new_events None p = []
    new_events (Some e) p = cond (may_act p e) (e ∷ []) []

    -- the events of a plan without a limit
    abbrev pub trace : Plan → Progress → List Event
    trace idle p = []
    trace (act f) p = new_events (f p.state) p
    trace (look f) p = trace (f p.state) p
    trace (both a b) p = trace a p ++ trace b (exec rules s now None a p)
    trace begins p = []

    record IsTrace (p q : Progress) (events : List Event) : Type 0 where
      are : AreSettleEvents rules s now p.state events
      state : q.state ≡ run rules s events p.state
      count : q.events ≡ counted_by (length events) p.events

    no_trace : (p q : Progress) → q.state ≡ p.state → q.events ≡ p.events → IsTrace p q []
    no_trace p q e f = record { are = tt; state = e; count = f }

    trace_on : (p q r : Progress) (es fs : List Event) → IsTrace p q es → IsTrace q r fs → IsTrace p r (es ++ fs)
    trace_on p q r es fs a b = record {
      are = are-append es fs p.state a.are (subst (λ n. AreSettleEvents rules s now n fs) a.state b.are);
      state = b.state ∙ ap (run rules s fs) a.state ∙ sym (run-append es fs p.state);
      count = b.count ∙ ap (counted_by (length fs)) a.count ∙ sym (counted_by-append es fs p.events);
    }

    never : (p : Progress) (e : Event) (x : Stop) → p.stop ≡ Some x → may_act p e ≡ false
    never p e x f = ap (λ v. is_none v && is_none (refusal rules s e p.state)) f

    refuses : (p : Progress) (e : Event) (x : Fault) → p.stop ≡ None → refusal rules s e p.state ≡ Some x → may_act p e ≡ false
    refuses p e x f h = ap (λ v. is_none v && is_none (refusal rules s e p.state)) f ∙ ap is_none h

    may : (p : Progress) (e : Event) → p.stop ≡ None → refusal rules s e p.state ≡ None → may_act p e ≡ true
    may p e f h = ap (λ v. is_none v && is_none (refusal rules s e p.state)) f ∙ ap is_none h

    exec_trace : (plan : Plan) → Fits plan → (p : Progress) → IsTrace p (exec rules s now None plan p) (trace plan p)
    exec_trace idle fits p = no_trace p p refl refl
    exec_trace (act f) fits p = some (f p.state) refl
      where
        none_new : (e : Event) (q : Progress) → may_act p e ≡ false → q.state ≡ p.state → q.events ≡ p.events → IsTrace p q (cond (may_act p e) (e ∷ []) [])
        none_new e q h i j = subst (λ b. IsTrace p q (cond b (e ∷ []) [])) (sym h) (no_trace p q i j)

        at : (e : Event) → f p.state ≡ Some e → (q : Progress) → Tries rules s now None e p q → IsTrace p q (cond (may_act p e) (e ∷ []) [])
        at e is q (stopped x f) = none_new e p (never p e x f) refl refl
        at e is q (full f g) = absurd (true≢false (sym g))
        at e is q (refused x f g h) = none_new e q (refuses p e x f h) refl refl
        at e is q (acts f g h) = subst (λ b. IsTrace p q (cond b (e ∷ []) [])) (sym (may p e f h))
            (record { are = (fits p.state e is, h, tt); state = sym (step_acts e p.state h); count = refl })

        some : (v : Option Event) → f p.state ≡ v → IsTrace p (try_some rules s now None v p) (new_events v p)
        some None is = no_trace p p refl refl
        some (Some e) is = at e is (try_event rules s None e p) (at_event rules s now None e p)
    exec_trace (look f) fits p = exec_trace (f p.state) (fits p.state) p
    exec_trace (both a b) fits p = trace_on p (exec rules s now None a p) _ (trace a p) (trace b (exec rules s now None a p)) (exec_trace a fits.0 p) (exec_trace b fits.1 (exec rules s now None a p))
    exec_trace begins fits p = no_trace p (begun_round now p) refl refl

    -- q is p, a settle of m, stopped after the first n of its events
    record IsOff (m : State) (n : ℕ) (events : List Event) (q : Progress) : Type 0 where
      stop : q.stop ≡ Some Limit
      at : q.events ≡ n
      enough : n ≤ length events
      state : q.state ≡ run rules s (first_events n events) m

    record Cut (m : State) (n : ℕ) (events : List Event) (p q : Progress) : Type 0 where
      are : AreSettleEvents rules s now m events
      state : p.state ≡ run rules s events m
      count : p.events ≡ counted_by (length events) 0
      cut : ((q ≡ p) × (length events ≤ n)) ⊎ IsOff m n events q

    module _ (m : State) (n : ℕ) (small : n ≤ 2 ^ 64 - 1) where
      off_extends : (es fs : List Event) (p q p' : Progress) → Cut m n es p q → IsOff m n es q → IsTrace p p' fs → Cut m n (es ++ fs) p' q
      off_extends es fs p q p' c off x = record {
        are = are-append es fs m c.are (subst (λ n. AreSettleEvents rules s now n fs) c.state x.are);
        state = x.state ∙ ap (run rules s fs) c.state ∙ sym (run-append es fs m);
        count = x.count ∙ ap (counted_by (length fs)) c.count ∙ sym (counted_by-append es fs 0);
        cut = inr (record {
          stop = off.stop;
          at = off.at;
          enough = let a = off.enough in let b = length-append es fs in omega arith;
          state = off.state ∙ ap (λ gs. run rules s gs m) (sym (first_events-append n es fs off.enough));
        });
      }

      off_exec : (plan : Plan) → Fits plan → (es : List Event) (p q : Progress) → Cut m n es p q → IsOff m n es q → Cut m n (es ++ trace plan p) (exec rules s now None plan p) (exec rules s now (Some n) plan q)
      off_exec plan fits es p q c off = subst (Cut m n (es ++ trace plan p) (exec rules s now None plan p)) (sym (exec_stopped rules s now (Some n) plan q Limit off.stop))
          (off_extends es (trace plan p) p q (exec rules s now None plan p) c off (exec_trace plan fits p))

      -- where the two are one, so are they after an event, or the limit comes
      same_event : (es : List Event) (p : Progress) → Cut m n es p p → length es ≤ n → (v : Option Event) → ((e : Event) → v ≡ Some e → IsSettleEvent rules now p.state e)
          → Cut m n (es ++ new_events v p) (try_some rules s now None v p) (try_some rules s now (Some n) v p)
      same_event es p c le None fits = subst (λ fs. Cut m n fs p p) (sym (append-nil es)) c
      same_event es p c le (Some e) fits = at (try_event rules s None e p) (try_event rules s (Some n) e p) (at_event rules s now None e p) (at_event rules s now (Some n) e p)
        where
          both_stop : {A : Type 0} (x : Stop) → p.stop ≡ Some x → p.stop ≡ None → A
          both_stop x f g = absurd (true≢false (ap is_some (sym f ∙ g)))

          both_refuse : {A : Type 0} (x : Fault) → refusal rules s e p.state ≡ Some x → refusal rules s e p.state ≡ None → A
          both_refuse x f g = absurd (true≢false (ap is_some (sym f ∙ g)))

          none_new : (q q' : Progress) → may_act p e ≡ false → Cut m n es q q' → Cut m n (es ++ cond (may_act p e) (e ∷ []) []) q q'
          none_new q q' h d = subst (λ b. Cut m n (es ++ cond b (e ∷ []) []) q q') (sym h) (subst (λ fs. Cut m n fs q q') (sym (append-nil es)) d)

          more : p.stop ≡ None → refusal rules s e p.state ≡ None → (q : Progress) → ((q ≡ stood e (change rules s e p.state) p) × (length (es ++ e ∷ []) ≤ n)) ⊎ IsOff m n (es ++ e ∷ []) q
              → Cut m n (es ++ cond (may_act p e) (e ∷ []) []) (stood e (change rules s e p.state) p) q
          more f h q cut = subst (λ b. Cut m n (es ++ cond b (e ∷ []) []) (stood e (change rules s e p.state) p) q) (sym (may p e f h)) (record {
            are = are-append es (e ∷ []) m c.are (subst (λ n. AreSettleEvents rules s now n (e ∷ [])) c.state (fits e refl, h, tt));
            state = sym (step_acts e p.state h) ∙ ap (step rules s e) c.state ∙ sym (run-append es (e ∷ []) m);
            count = ap counted c.count ∙ sym (counted_by-append es (e ∷ []) 0);
            cut = cut;
          })

          count_is : p.events ≡ min (length es + 0) (2 ^ 64 - 1)
          count_is = c.count ∙ counted_by-min (length es) 0 (omega arith)

          le_full : is_full (Some n) p.events ≡ true → n ≤ p.events
          le_full g = grind (arith, nat_tests)

          lt_full : is_full (Some n) p.events ≡ false → p.events < n
          lt_full g = grind (arith, nat_tests)

          exact : is_full (Some n) p.events ≡ true → length es ≡ n
          exact g = let a = le_full g in let b = count_is in omega arith

          at_limit : is_full (Some n) p.events ≡ true → p.events ≡ n
          at_limit g = let a = le_full g in let b = count_is in omega arith

          stopped_here : is_full (Some n) p.events ≡ true → p.state ≡ run rules s (first_events n es) m
          stopped_here g = c.state ∙ ap (λ fs. run rules s fs m) (sym (first_events-all n es (let x = exact g in omega arith)))

          at : (q q' : Progress) → Tries rules s now None e p q → Tries rules s now (Some n) e p q' → Cut m n (es ++ cond (may_act p e) (e ∷ []) []) q q'
          at q q' (stopped x f) (stopped x' f') = none_new p p (never p e x f) c
          at q q' (stopped x f) (full f' g') = both_stop x f f'
          at q q' (stopped x f) (refused x' f' g' h') = both_stop x f f'
          at q q' (stopped x f) (acts f' g' h') = both_stop x f f'
          at q q' (full f g) t = absurd (true≢false (sym g))
          at q q' (refused x f g h) (stopped x' f') = both_stop x' f' f
          at q q' (refused x f g h) (full f' g') = none_new q q' (refuses p e x f h) (record {
            are = c.are;
            state = c.state;
            count = c.count;
            cut = inr (record { stop = refl; at = at_limit g'; enough = let x = exact g' in omega arith; state = stopped_here g' });
          })
          at q q' (refused x f g h) (refused x' f' g' h') = none_new q q' (refuses p e x f h) (record {
            are = c.are;
            state = c.state;
            count = c.count;
            cut = inl (ap (λ v. record p { stop = Some (Refused v) }) (some_same x' x (sym h' ∙ h)), le);
          })
          at q q' (refused x f g h) (acts f' g' h') = both_refuse x h h'
          at q q' (acts f g h) (stopped x' f') = both_stop x' f' f
          at q q' (acts f g h) (full f' g') = more f h q' (inr (record {
            stop = refl;
            at = at_limit g';
            enough = let x = exact g' in let y = length-append es (e ∷ []) in omega arith;
            state = stopped_here g' ∙ ap (λ fs. run rules s fs m) (sym (first_events-append n es (e ∷ []) (let x = exact g' in omega arith)));
          }))
          at q q' (acts f g h) (refused x' f' g' h') = both_refuse x' h' h
          at q q' (acts f g h) (acts f' g' h') = more f h q' (inl (refl, let a = lt_full g' in let b = count_is in let y = length-append es (e ∷ []) in room a b y))
            where
              room : p.events < n → p.events ≡ min (length es + 0) (2 ^ 64 - 1) → length (es ++ e ∷ []) ≡ length es + length (e ∷ []) → length (es ++ e ∷ []) ≤ n
              room a b y = let l : length (e ∷ []) ≡ 1 = refl in omega arith

      exec_cut : (plan : Plan) → Fits plan → (es : List Event) (p q : Progress) → Cut m n es p q → Cut m n (es ++ trace plan p) (exec rules s now None plan p) (exec rules s now (Some n) plan q)
      exec_cut idle fits es p q c = subst (λ fs. Cut m n fs p q) (sym (append-nil es)) c
      exec_cut (act f) fits es p q c = ⊎_elim
          (λ same. subst (λ q. Cut m n (es ++ trace (act f) p) (exec rules s now None (act f) p) (exec rules s now (Some n) (act f) q)) (sym same.0)
          (same_event es p (record { are = c.are; state = c.state; count = c.count; cut = inl (refl, same.1) }) same.1 (f p.state) (fits p.state)))
          (λ off. off_exec (act f) fits es p q c off) c.cut
      exec_cut (look f) fits es p q c = ⊎_elim
          (λ same. subst (λ q. Cut m n (es ++ trace (look f) p) (exec rules s now None (look f) p) (exec rules s now (Some n) (look f) q)) (sym same.0)
          (exec_cut (f p.state) (fits p.state) es p p (subst (Cut m n es p) same.0 c)))
          (λ off. off_exec (look f) fits es p q c off) c.cut
      exec_cut (both a b) fits es p q c = subst (λ fs. Cut m n fs (exec rules s now None (both a b) p) (exec rules s now (Some n) (both a b) q)) (append-assoc es (trace a p) (trace b (exec rules s now None a p)))
          (exec_cut b fits.1 (es ++ trace a p) (exec rules s now None a p) (exec rules s now (Some n) a q) (exec_cut a fits.0 es p q c))
      exec_cut begins fits es p q c = subst (λ fs. Cut m n fs (begun_round now p) (begun_round now q)) (sym (append-nil es)) (⊎_elim
          (λ same. subst (λ q. Cut m n es (begun_round now p) (begun_round now q)) (sym same.0)
          (record { are = c.are; state = c.state; count = c.count; cut = inl (refl, same.1) }))
          (λ off. subst (Cut m n es (begun_round now p)) (sym (exec_stopped rules s now (Some n) begins q Limit off.stop))
          (record { are = c.are; state = c.state; count = c.count; cut = inr off })) c.cut)

    module _ (m : State) where
      abbrev whole_plan : Plan
      whole_plan = settle_plan rules s now (width rules m)

      abbrev whole_events : List Event
      whole_events = trace whole_plan (not_begun m)

      cut_settle : (n : ℕ) → n ≤ 2 ^ 64 - 1 → Cut m n whole_events (try_settle rules s now None m) (try_settle rules s now (Some n) m)
      cut_settle n small = subst (λ p. Cut m n whole_events p (try_settle rules s now (Some n) m)) (exec_settle rules s now None m)
          (subst (Cut m n whole_events (exec rules s now None whole_plan (not_begun m))) (exec_settle rules s now (Some n) m)
          (exec_cut m n small whole_plan (fits_settle (width rules m)) [] (not_begun m) (not_begun m)
          (record { are = tt; state = refl; count = refl; cut = inl (refl, omega arith) })))

      module _ (es : List Event) (n : ℕ) (p q : Progress) (c : Cut m n es p q) where
        state_at : q.state ≡ run rules s (first_events n es) m
        state_at = ⊎_elim {C = q.state ≡ run rules s (first_events n es) m}
            (λ same. ap (λ (p : Progress). p.state) same.0 ∙ c.state ∙ ap (λ es. run rules s es m) (sym (first_events-all n es same.1)))
            (λ off. off.state) c.cut

        count_at : n ≤ 2 ^ 64 - 1 → q.events ≡ min n (length es)
        count_at small = ⊎_elim {C = q.events ≡ min n (length es)}
            (λ same. ap (λ (p : Progress). p.events) same.0 ∙ c.count ∙ counted_by-min (length es) 0 (omega arith) ∙ few (length es) same.1)
            (λ off. off.at ∙ least (length es) off.enough) c.cut
          where
            few : (k : ℕ) → k ≤ n → min (k + 0) (2 ^ 64 - 1) ≡ min n k
            few k le = omega arith

            least : (k : ℕ) → n ≤ k → n ≡ min n k
            least k le = omega arith

        limit_at : n < length es → q.stop ≡ Some Limit
        limit_at lt = ⊎_elim {C = q.stop ≡ Some Limit} (λ same. let le = same.1 in absurd (omega arith)) (λ off. off.stop) c.cut

      with_events : (es : List Event) → AreSettleEvents rules s now m es → (try_settle rules s now None m).state ≡ run rules s es m
          → ((n : ℕ) → n ≤ 2 ^ 64 - 1 → Cut m n es (try_settle rules s now None m) (try_settle rules s now (Some n) m)) → HasEvents rules s now m
      with_events es are whole cut = record {
        events = es;
        are = are;
        whole = whole;
        cut = λ n lt. state_at es n (try_settle rules s now None m) (try_settle rules s now (Some n) m) (cut n (omega arith));
        count = λ n lt. count_at es n (try_settle rules s now None m) (try_settle rules s now (Some n) m) (cut n (omega arith)) (omega arith);
        limited = λ n le lt. limit_at es n (try_settle rules s now None m) (try_settle rules s now (Some n) m) (cut n (omega arith)) le;
      }

      pub has_events : HasEvents rules s now m
      has_events =
          let t = exec_trace whole_plan (fits_settle (width rules m)) (not_begun m) in
          with_events whole_events t.are (ap (λ (p : Progress). p.state) (sym (exec_settle rules s now None m)) ∙ t.state) cut_settle
