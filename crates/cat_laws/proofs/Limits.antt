-- Parts of a settle that are stopped by a limit, one after the other.
use Rattle.std.proofs.Common.{◌≡◌, ℕ, zero, suc, ◌+◌, ◌-◌, ◌*◌, ◌^◌, ◌<◌, ◌≤◌, Bool, true, false, cond, List, [], ◌∷◌, length, refl, sym, ap, subst, ◌∙◌, is_some, true≢false, arith}
use Rattle.std.specs.declared.option.Option.{Option}
use Rattle.std.specs.declared.option.Option.TheVariants.{None, Some}
use Rattle.std.specs.Option.{option_map}
use Rattle.std.proofs.lemmas.Bool.Decides.{nat_tests}
use Rattle.cat_collections.specs.Table.{get}
use Rattle.cat_model.specs.declared.types.State.{State}
use Rattle.cat_model.specs.declared.types.Record.{Record}
use Rattle.cat_model.specs.declared.types.Settings.{Settings}
use Rattle.cat_model.specs.declared.types.Order.{Order}
use Rattle.cat_model.specs.declared.types.StitchOrder.{StitchOrder}
use Rattle.cat_model.specs.declared.types.Stop.{Stop}
use Rattle.cat_model.specs.declared.types.Stop.TheVariants.{Refused, Limit}
use Rattle.cat_model.specs.declared.types.Progress.{Progress}
use Rattle.cat_model.specs.Catalogue.{Ref, Rules}
use Rattle.cat_model.specs.Step.{Event, take}
use Rattle.cat_model.specs.Step.Event.{TakeAt, Finish, PutStitch}
use Rattle.cat_model.specs.Settle.{is_due, order, counted, is_full, begun_round, due_refs, width, try_event, try_finish, try_take_and_finish, try_turn, try_turns, try_round, try_rounds, try_stitch_with, mark_order, try_stitches, try_marks, try_settle, not_begun, limit_at, limit_of}
use Rattle.cat_laws.proofs.Plan.{Plan, Tries, at_event, try_some, exec, turn_plan, turns_plan, round_plan, rounds_plan, stitch_event, stitches_plan, marks_plan, exec_finish, exec_turn, exec_turns, exec_round, exec_rounds, exec_stitch, exec_stitches, exec_marks, exec_settle, exec_stopped}
use Rattle.cat_laws.proofs.Plan.Plan.{idle, act, look, both, begins}
use Rattle.cat_laws.proofs.Plan.Tries.{stopped, full, refused, acts}
use Rattle.cat_laws.proofs.Counters.{change_grows}

module _ (rules : Rules) (s : Settings) (now : ℕ) where
  -- what isn't stopped after wasn't before
  pub open_before : (limit : Option ℕ) (plan : Plan) (p : Progress) → (exec rules s now limit plan p).stop ≡ None → p.stop ≡ None
  open_before limit plan p h = go p.stop refl
    where
      go : (v : Option Stop) → p.stop ≡ v → v ≡ None
      go None f = refl
      go (Some x) f = absurd (true≢false (ap is_some (sym f ∙ ap (λ (q : Progress). q.stop) (sym (exec_stopped rules s now limit plan p x f)) ∙ h)))

  -- the events only grow in number
  pub more_events : (limit : Option ℕ) (plan : Plan) (p : Progress) → (exec rules s now limit plan p).events < 2 ^ 64 - 1 → p.events ≤ (exec rules s now limit plan p).events
  more_events limit idle p h = omega arith
  more_events limit (act f) p h = some (f p.state) h
    where
      at : (e : Event) (q : Progress) → Tries rules s now limit e p q → q.events < 2 ^ 64 - 1 → p.events ≤ q.events
      at e q (stopped x f) h = omega arith
      at e q (full f g) h = omega arith
      at e q (refused x f g i) h = omega arith
      at e q (acts f g i) h = omega arith

      some : (v : Option Event) → (try_some rules s now limit v p).events < 2 ^ 64 - 1 → p.events ≤ (try_some rules s now limit v p).events
      some None h = omega arith
      some (Some e) h = at e (try_event rules s limit e p) (at_event rules s now limit e p) h
  more_events limit (look f) p h = more_events limit (f p.state) p h
  more_events limit (both a b) p h =
      let le = more_events limit b (exec rules s now limit a p) h in
      let le' = more_events limit a p (omega arith) in
      omega arith
  more_events limit begins p h = omega arith

  -- a limit that isn't reached makes no difference
  pub unreached : (plan : Plan) (p : Progress) (k : ℕ) → (exec rules s now None plan p).stop ≡ None → (exec rules s now None plan p).events ≤ k → (exec rules s now None plan p).events < 2 ^ 64 - 1
      → exec rules s now (Some k) plan p ≡ exec rules s now None plan p
  unreached idle p k h le lt = refl
  unreached (act f) p k h le lt = some (f p.state) h le lt
    where
      at : (e : Event) (q q' : Progress) → Tries rules s now None e p q → Tries rules s now (Some k) e p q' → q.stop ≡ None → q.events ≤ k → q.events < 2 ^ 64 - 1 → q' ≡ q
      at e q q' (stopped x f) t h le lt = absurd (true≢false (ap is_some (sym f ∙ h)))
      at e q q' (full f g) t h le lt = absurd (true≢false (ap is_some h))
      at e q q' (refused x f g i) t h le lt = absurd (true≢false (ap is_some h))
      at e q q' (acts f g i) (stopped x' f') h le lt = absurd (true≢false (ap is_some (sym f' ∙ f)))
      at e q q' (acts f g i) (full f' g') h le lt = absurd (over g' le lt)
        where
          over : is_full (Some k) p.events ≡ true → counted p.events ≤ k → counted p.events < 2 ^ 64 - 1 → ⊥
          over g' le lt = let a : k ≤ p.events = le_full g' in omega arith
            where
              le_full : is_full (Some k) p.events ≡ true → k ≤ p.events
              le_full g = grind (arith, nat_tests)
      at e q q' (acts f g i) (refused x' f' g' i') h le lt = absurd (true≢false (ap is_some (sym i' ∙ i)))
      at e q q' (acts f g i) (acts f' g' i') h le lt = refl

      some : (v : Option Event) → (try_some rules s now None v p).stop ≡ None → (try_some rules s now None v p).events ≤ k → (try_some rules s now None v p).events < 2 ^ 64 - 1
          → try_some rules s now (Some k) v p ≡ try_some rules s now None v p
      some None h le lt = refl
      some (Some e) h le lt = at e (try_event rules s None e p) (try_event rules s (Some k) e p) (at_event rules s now None e p) (at_event rules s now (Some k) e p) h le lt
  unreached (look f) p k h le lt = unreached (f p.state) p k h le lt
  unreached (both a b) p k h le lt =
      let first = exec rules s now None a p in
      let more = more_events None b first lt in
      ap (exec rules s now (Some k) b) (unreached a p k (open_before None b first h) (omega arith) (omega arith)) ∙ unreached b first k h le lt
  unreached begins p k h le lt = refl

  -- two parts one after the other, each stopped where its progress says, are both together, stopped where the second says
  pub in_turn : (a b : Plan) (p q r : Progress) → q ≡ exec rules s now (limit_of q) a p → r ≡ exec rules s now (limit_of r) b q → r.events < 2 ^ 64 - 1 → r ≡ exec rules s now (limit_of r) (both a b) p
  in_turn a b p q r hq hr lt = go q.stop refl
    where
      more : q.events ≤ r.events
      more = let le = more_events (limit_of r) b q (subst (λ (x : Progress). x.events < 2 ^ 64 - 1) hr lt) in let e : r.events ≡ (exec rules s now (limit_of r) b q).events = ap (λ (x : Progress). x.events) hr in omega arith

      at : q.stop ≡ None → (w : Option Stop) → exec rules s now (limit_at w r.events) a p ≡ q
      at f None = sym (hq ∙ ap (λ v. exec rules s now (limit_at v q.events) a p) f)
      at f (Some (Refused fault)) = sym (hq ∙ ap (λ v. exec rules s now (limit_at v q.events) a p) f)
      at f (Some Limit) =
          let whole : q ≡ exec rules s now None a p = hq ∙ ap (λ v. exec rules s now (limit_at v q.events) a p) f in
          let le = more in
          unreached a p r.events (ap (λ (x : Progress). x.stop) (sym whole) ∙ f)
          (subst (λ (x : Progress). x.events ≤ r.events) whole le) (subst (λ (x : Progress). x.events < 2 ^ 64 - 1) whole (omega arith))
          ∙ sym whole

      go : (v : Option Stop) → q.stop ≡ v → r ≡ exec rules s now (limit_of r) (both a b) p
      go None f = hr ∙ ap (exec rules s now (limit_of r) b) (sym (at f r.stop))
      go (Some x) f =
          let same : r ≡ q = hr ∙ exec_stopped rules s now (limit_of r) b q x f in
          hr ∙ ap (exec rules s now (limit_of r) b) (hq ∙ ap (λ y. exec rules s now (limit_of y) a p) (sym same))

  -- ---- the same for the parts of a settle

  pub turn_in_turn : (r : Ref) (p q t : Progress) → q ≡ try_event rules s (limit_of q) (TakeAt r now) p → t ≡ try_finish rules s now (limit_of t) (order rules q.state r) q → t.events < 2 ^ 64 - 1
      → t ≡ try_take_and_finish rules s now (limit_of t) r p
  turn_in_turn r p q t hq ht lt =
      let finish : Plan = act (λ m. option_map (λ x. Finish x now) (order rules m r)) in
      in_turn (act (λ m. Some (TakeAt r now))) (act (λ m. option_map (λ x. Finish x now) (order rules m r))) p q t hq (ht ∙ sym (exec_finish rules s now (limit_of t) (order rules q.state r) q)) lt
      ∙ exec_finish rules s now (limit_of t) (order rules (try_event rules s (limit_of t) (TakeAt r now) p).state r) (try_event rules s (limit_of t) (TakeAt r now) p)

  pub turns_in_turn : (r : Ref) (rs : List Ref) (p q t : Progress) → q ≡ try_turn rules s now (limit_of q) r p → t ≡ try_turns rules s now (limit_of t) rs q → t.events < 2 ^ 64 - 1
      → t ≡ try_turns rules s now (limit_of t) (r ∷ rs) p
  turns_in_turn r rs p q t hq ht lt =
      in_turn (turn_plan rules s now r) (turns_plan rules s now rs) p q t (hq ∙ sym (exec_turn rules s now (limit_of q) r p)) (ht ∙ sym (exec_turns rules s now (limit_of t) rs q)) lt
      ∙ exec_turns rules s now (limit_of t) (r ∷ rs) p

  pub rounds_in_turn : (n : ℕ) (p q t : Progress) → q ≡ try_round rules s now (limit_of q) p → t ≡ try_rounds rules s now (limit_of t) n q → t.events < 2 ^ 64 - 1
      → t ≡ try_rounds rules s now (limit_of t) (suc n) p
  rounds_in_turn n p q t hq ht lt =
      in_turn (round_plan rules s now) (rounds_plan rules s now n) p q t (hq ∙ sym (exec_round rules s now (limit_of q) p)) (ht ∙ sym (exec_rounds rules s now (limit_of t) n q)) lt
      ∙ exec_rounds rules s now (limit_of t) (suc n) p

  pub stitches_in_turn : (r : Ref) (rs : List Ref) (p q t : Progress) → q ≡ try_stitch_with rules s (limit_of q) (mark_order rules p.state r) p → t ≡ try_stitches rules s (limit_of t) rs q → t.events < 2 ^ 64 - 1
      → t ≡ try_stitches rules s (limit_of t) (r ∷ rs) p
  stitches_in_turn r rs p q t hq ht lt =
      in_turn (act (stitch_event rules s now r)) (stitches_plan rules s now rs) p q t (hq ∙ sym (exec_stitch rules s now (limit_of q) (mark_order rules p.state r) p)) (ht ∙ sym (exec_stitches rules s now (limit_of t) rs q)) lt
      ∙ exec_stitches rules s now (limit_of t) (r ∷ rs) p

  pub settle_in_turn : (m : State) (q t : Progress) → q ≡ try_rounds rules s now (limit_of q) (width rules m) (not_begun m) → t ≡ try_marks rules s (limit_of t) q → t.events < 2 ^ 64 - 1
      → t ≡ try_settle rules s now (limit_of t) m
  settle_in_turn m q t hq ht lt =
      in_turn (rounds_plan rules s now (width rules m)) (marks_plan rules s now) (not_begun m) q t (hq ∙ sym (exec_rounds rules s now (limit_of q) (width rules m) (not_begun m))) (ht ∙ sym (exec_marks rules s now (limit_of t) q)) lt
      ∙ exec_settle rules s now (limit_of t) m

  -- an event that comes to nothing for want of what it needs is one before which the limit stands
  pub stopped_here : (e : Event) (p : Progress) → p.stop ≡ None → record p { stop = Some Limit } ≡ try_event rules s (Some p.events) e p
  stopped_here e p f = at (try_event rules s (Some p.events) e p) (at_event rules s now (Some p.events) e p)
    where
      same : (k : ℕ) → is_full (Some k) k ≡ true
      same k = grind (arith, nat_tests)

      at : (q : Progress) → Tries rules s now (Some p.events) e p q → record p { stop = Some Limit } ≡ q
      at q (stopped x g) = absurd (true≢false (ap is_some (sym g ∙ f)))
      at q (full g h) = refl
      at q (refused x g h i) = absurd (true≢false (sym (same p.events) ∙ h))
      at q (acts g h i) = absurd (true≢false (sym (same p.events) ∙ h))

  -- the events are at most twice as many as the tokens drawn
  act_few : (limit : Option ℕ) (e : Event) (p q : Progress) → Tries rules s now limit e p q → (q.events ≤ p.events + 1) × (p.state.token ≤ q.state.token)
  act_few limit e p q (stopped x f) = (omega arith, omega arith)
  act_few limit e p q (full f g) = (omega arith, omega arith)
  act_few limit e p q (refused x f g h) = (omega arith, omega arith)
  act_few limit e p q (acts f g h) = (omega arith, (change_grows rules s e p.state).token)

  module _ (limit : Option ℕ) where
    finish_few : (v : Option Order) (p : Progress) → ((try_finish rules s now limit v p).events ≤ p.events + 1) × (p.state.token ≤ (try_finish rules s now limit v p).state.token)
    finish_few None p = (omega arith, omega arith)
    finish_few (Some x) p = act_few limit (Finish x now) p (try_event rules s limit (Finish x now) p) (at_event rules s now limit (Finish x now) p)

    finish_stopped : (v : Option Order) (p : Progress) (x : Stop) → p.stop ≡ Some x → try_finish rules s now limit v p ≡ p
    finish_stopped None p x f = refl
    finish_stopped (Some o) p x f = exec_stopped rules s now limit (act (λ m. Some (Finish o now))) p x f

    abbrev pub AreFew : Progress → Type 0
    AreFew p = p.events ≤ 2 * p.state.token

    pub turn_few : (r : Ref) (p : Progress) → AreFew p → AreFew (try_turn rules s now limit r p)
    turn_few r p h = go (is_due now (get p.state.records r)) refl
      where
        rest : (q : Progress) (x : Stop) → q.stop ≡ Some x → AreFew q → AreFew (try_finish rules s now limit (order rules q.state r) q)
        rest q x f few = subst AreFew (sym (finish_stopped (order rules q.state r) q x f)) few

        taken_token : (v : Option Record) → is_due now v ≡ true → (take s r now p.state v).token ≡ p.state.token + 1
        taken_token None d = absurd (true≢false (sym d))
        taken_token (Some x) d = refl

        at : is_due now (get p.state.records r) ≡ true → (q : Progress) → Tries rules s now limit (TakeAt r now) p q → AreFew (try_finish rules s now limit (order rules q.state r) q)
        at d q (stopped x f) = rest p x f h
        at d q (full f g) = rest q Limit refl h
        at d q (refused x f g i) = rest q (Refused x) refl h
        at d q (acts f g i) = let a = finish_few (order rules q.state r) q in let t = taken_token (get p.state.records r) d in
            sum (try_finish rules s now limit (order rules q.state r) q).events (try_finish rules s now limit (order rules q.state r) q).state.token q.state.token a.0 a.1 t
          where
            sum : (k t u : ℕ) → k ≤ counted p.events + 1 → u ≤ t → u ≡ p.state.token + 1 → k ≤ 2 * t
            sum k t u a b c = omega arith

        go : (b : Bool) → is_due now (get p.state.records r) ≡ b → AreFew (cond b (try_take_and_finish rules s now limit r p) p)
        go true d = at d (try_event rules s limit (TakeAt r now) p) (at_event rules s now limit (TakeAt r now) p)
        go false d = h

    pub turns_few : (rs : List Ref) (p : Progress) → AreFew p → AreFew (try_turns rules s now limit rs p)
    turns_few [] p h = h
    turns_few (r ∷ rs) p h = turns_few rs (try_turn rules s now limit r p) (turn_few r p h)

    pub round_few : (p : Progress) → AreFew p → AreFew (try_round rules s now limit p)
    round_few p h = turns_few (due_refs now p.state) (begun_round now p) h

    pub rounds_few : (n : ℕ) (p : Progress) → AreFew p → AreFew (try_rounds rules s now limit n p)
    rounds_few zero p h = h
    rounds_few (suc n) p h = rounds_few n (try_round rules s now limit p) (round_few p h)

    stitch_few : (v : Option StitchOrder) (p : Progress) → (try_stitch_with rules s limit v p).events ≤ p.events + 1
    stitch_few None p = omega arith
    stitch_few (Some x) p = (act_few limit (PutStitch x) p (try_event rules s limit (PutStitch x) p) (at_event rules s now limit (PutStitch x) p)).0

    pub stitches_few : (rs : List Ref) (p : Progress) → (try_stitches rules s limit rs p).events ≤ p.events + length rs
    stitches_few [] p = omega arith
    stitches_few (r ∷ rs) p =
        let q = try_stitch_with rules s limit (mark_order rules p.state r) p in
        let a = stitch_few (mark_order rules p.state r) p in
        let b = stitches_few rs q in
        omega arith
