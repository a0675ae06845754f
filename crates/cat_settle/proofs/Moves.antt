-- Each round that begins before an end stops the settle or draws a token, so the rounds end.
use Rattle.std.proofs.Common.{◌≡◌, ℕ, zero, suc, ◌+◌, ◌-◌, ◌^◌, ◌<◌, ◌≤◌, ◌⊎◌, inl, inr, ⊎_elim, Bool, true, false, cond, ◌||◌, List, [], ◌∷◌, length, refl, sym, ap, subst, ◌∙◌, is_some, le_refl, true≢false, arith}
use Rattle.std.specs.declared.option.Option.{Option}
use Rattle.std.specs.declared.option.Option.TheVariants.{None, Some}
use Rattle.std.specs.List.{filter}
use Rattle.cat_collections.specs.Table.{get, keys}
use Rattle.cat_collections.proofs.Tables.{or_false_first, or_false_second}
use Rattle.cat_model.specs.declared.types.Fault.{Fault}
use Rattle.cat_model.specs.declared.types.Order.{Order}
use Rattle.cat_model.specs.declared.types.Progress.{Progress}
use Rattle.cat_model.specs.declared.types.Record.{Record}
use Rattle.cat_model.specs.declared.types.Settings.{Settings}
use Rattle.cat_model.specs.declared.types.State.{State}
use Rattle.cat_model.specs.declared.types.Stop.{Stop}
use Rattle.cat_model.specs.Catalogue.{Ref, Rules, frame}
use Rattle.cat_model.specs.Settle.{after_refusal, begun_round, due_refs, is_due, is_empty, is_ended, order, try_event, try_finish, try_round, try_rounds, try_take_and_finish, try_turn, try_turns}
use Rattle.cat_model.specs.Step.{Event, change, finish, finished_state, is_present, leaving, refusal, take}
use Rattle.cat_model.specs.Step.Event.{TakeAt, Finish}
use Rattle.cat_settle.specs.Part.{CutRounds, Goes, HaveRounds, IsCut, IsDone}
use Rattle.cat_settle.proofs.Parts.{done_done, done_cut, nothing_done, same_cut, same_done}
use Rattle.cat_settle.proofs.Stays.{round_stays}

-- the settle stopped, or a token was drawn
abbrev Moved : Progress → Progress → Type 0
Moved p q = (is_some q.stop ≡ true) ⊎ (p.state.token < q.state.token)

-- a stop stays, and no token comes back
record Holds (p q : Progress) : Type 0 where
  stop : is_some p.stop ≡ true → is_some q.stop ≡ true
  token : p.state.token ≤ q.state.token

moved_on : (p q r : Progress) → Moved p q → Holds q r → Moved p r
moved_on p q r (inl h) k = inl (k.stop h)
moved_on p q r (inr h) k = inr (let t = k.token in omega arith)

holds_on : (p q r : Progress) → Holds p q → Holds q r → Holds p r
holds_on p q r a b = record { stop = λ h. b.stop (a.stop h); token = let x = a.token in let y = b.token in omega arith }

same : (p : Progress) → Holds p p
same p = record { stop = λ h. h; token = le_refl _ }

module _ (rules : Rules) (s : Settings) (now : ℕ) where
  event_holds : (e : Event) (p : Progress) → p.state.token ≤ (change rules s e p.state).token → Holds p (try_event rules s None e p)
  event_holds e p le = go p.stop refl
    where
      acts : (v : Option Fault) → p.state.token ≤ (after_refusal v e (change rules s e p.state) p).state.token
      acts None = le
      acts (Some x) = le_refl _

      token : (b : Bool) → p.state.token ≤ (cond b p (after_refusal (refusal rules s e p.state) e (change rules s e p.state) p)).state.token
      token true = le_refl _
      token false = acts (refusal rules s e p.state)

      go : (v : Option Stop) → p.stop ≡ v → Holds p (try_event rules s None e p)
      go None f = record { stop = λ h. absurd (true≢false (sym h ∙ ap is_some f)); token = token (is_some p.stop) }
      go (Some x) f =
          let b : is_some p.stop ≡ true = ap is_some f in
          record { stop = λ h. ap (λ c. is_some (cond c p (after_refusal (refusal rules s e p.state) e (change rules s e p.state) p)).stop) b ∙ b; token = token (is_some p.stop) }

  taken_token : (r : Ref) (m : State) (v : Option Record) → m.token ≤ (take s r now m v).token
  taken_token r m None = le_refl _
  taken_token r m (Some x) = omega arith

  finish_token : (x : Order) (m : State) (v : Option Record) → m.token ≤ (finish rules s x now m v).token
  finish_token x m None = le_refl _
  finish_token x m (Some y) = go (is_present rules m x y)
    where
      go : (b : Bool) → m.token ≤ (cond b (frame rules (leaving s.orphans) m (finished_state s x.reference now y (rules.result x.work) m)) m).token
      go true = le_refl _
      go false = le_refl _

  finish_holds : (v : Option Order) (p : Progress) → Holds p (try_finish rules s now None v p)
  finish_holds None p = same p
  finish_holds (Some x) p = event_holds (Finish x now) p (finish_token x p.state (get p.state.records x.reference))

  taken_holds : (r : Ref) (p : Progress) → Holds p (try_take_and_finish rules s now None r p)
  taken_holds r p =
      let q = try_event rules s None (TakeAt r now) p in
      holds_on p q _ (event_holds (TakeAt r now) p (taken_token r p.state (get p.state.records r))) (finish_holds (order rules q.state r) q)

  turn_holds : (r : Ref) (p : Progress) → Holds p (try_turn rules s now None r p)
  turn_holds r p = go (is_due now (get p.state.records r))
    where
      go : (b : Bool) → Holds p (cond b (try_take_and_finish rules s now None r p) p)
      go true = taken_holds r p
      go false = same p

  turns_holds : (rs : List Ref) (p : Progress) → Holds p (try_turns rules s now None rs p)
  turns_holds [] p = same p
  turns_holds (r ∷ rs) p = holds_on p (try_turn rules s now None r p) _ (turn_holds r p) (turns_holds rs (try_turn rules s now None r p))

  due_record : (v : Option Record) → is_due now v ≡ true → (x : Record) × (v ≡ Some x)
  due_record None h = absurd (true≢false (sym h))
  due_record (Some x) h = (x, refl)

  -- a take of a record that is there
  take_moves : (r : Ref) (p : Progress) → is_due now (get p.state.records r) ≡ true → Moved p (try_event rules s None (TakeAt r now) p)
  take_moves r p due = go p.stop refl
    where
      n : State
      n = change rules s (TakeAt r now) p.state

      drawn : p.state.token < n.token
      drawn = let x = due_record (get p.state.records r) due in subst (λ v. p.state.token < (take s r now p.state v).token) (sym x.1) (omega arith)

      acts : (v : Option Fault) → Moved p (after_refusal v (TakeAt r now) n p)
      acts None = inr drawn
      acts (Some x) = inl refl

      go : (v : Option Stop) → p.stop ≡ v → Moved p (try_event rules s None (TakeAt r now) p)
      go None f = subst (λ b. Moved p (cond b p (after_refusal (refusal rules s (TakeAt r now) p.state) (TakeAt r now) n p))) (sym (ap is_some f)) (acts (refusal rules s (TakeAt r now) p.state))
      go (Some x) f = subst (λ b. Moved p (cond b p (after_refusal (refusal rules s (TakeAt r now) p.state) (TakeAt r now) n p))) (sym (ap is_some f)) (inl (ap is_some f))

  turn_moves : (r : Ref) (p : Progress) → is_due now (get p.state.records r) ≡ true → Moved p (try_turn rules s now None r p)
  turn_moves r p due =
      let q = try_event rules s None (TakeAt r now) p in
      subst (λ b. Moved p (cond b (try_take_and_finish rules s now None r p) p)) (sym due)
      (moved_on p q _ (take_moves r p due) (finish_holds (order rules q.state r) q))

  filter_head : (f : Ref → Bool) (ks : List Ref) (r : Ref) (rs : List Ref) → filter f ks ≡ r ∷ rs → f r ≡ true
  filter_head f [] r rs h = absurd (cc)
  filter_head f (k ∷ ks) r rs h = go (filter_head f ks r rs) (f k) refl h
    where
      go : (filter f ks ≡ r ∷ rs → f r ≡ true) → (b : Bool) → f k ≡ b → cond b (k ∷ filter f ks) (filter f ks) ≡ r ∷ rs → f r ≡ true
      go ih true e h = let same : k ≡ r = cc in ap f (sym same) ∙ e
      go ih false e h = ih h

  round_moves : (p : Progress) → is_ended now p ≡ false → Moved p (try_round rules s now None p)
  round_moves p going = go (due_refs now p.state) refl
    where
      go : (rs : List Ref) → due_refs now p.state ≡ rs → Moved p (try_round rules s now None p)
      go [] e = absurd (true≢false (ap is_empty (sym e) ∙ or_false_second (is_some p.stop) (is_empty (due_refs now p.state)) going))
      go (r ∷ rs) e =
          let b = begun_round now p in
          let due = filter_head (λ q. is_due now (get p.state.records q)) (keys p.state.records) r rs e in
          subst (λ l. Moved p (try_turns rules s now None l b)) (sym e)
          (moved_on p (try_turn rules s now None r b) _ (turn_moves r b due) (turns_holds rs (try_turn rules s now None r b)))

  -- what is left to the rounds
  abbrev pub left : Progress → ℕ
  left p = cond (is_some p.stop) 0 (2 ^ 59 + 1 - p.state.token)

  pub left_falls : (p q : Progress) → is_ended now p ≡ false → q ≡ try_round rules s now None p → p.state.token ≤ 2 ^ 59 → left q < left p
  left_falls p q going is small =
      let open' : is_some p.stop ≡ false = or_false_first (is_some p.stop) (is_empty (due_refs now p.state)) going in
      let here : left p ≡ 2 ^ 59 + 1 - p.state.token = ap (λ b. cond b 0 (2 ^ 59 + 1 - p.state.token)) open' in
      go (is_some q.stop) refl here (subst (Moved p) (sym is) (round_moves p going))
    where
      go : (b : Bool) → is_some q.stop ≡ b → left p ≡ 2 ^ 59 + 1 - p.state.token → Moved p q → cond b 0 (2 ^ 59 + 1 - q.state.token) < left p
      go true e here m = omega arith
      go false e here (inl h) = absurd (true≢false (sym h ∙ e))
      go false e here (inr h) = omega arith

  -- one round more
  rounds_more : (limit : Option ℕ) (k : ℕ) (p : Progress) → try_rounds rules s now limit (suc k) p ≡ try_round rules s now limit (try_rounds rules s now limit k p)
  rounds_more limit zero p = refl
  rounds_more limit (suc k) p = rounds_more limit k (try_round rules s now limit p)

  no_more : (k n : ℕ) → n < suc k → (n < k) ⊎ (n ≡ k)
  no_more k n h = grind arith

  module _ (old p : Progress) (have : HaveRounds rules s now old p) (going : is_ended now p ≡ false) (new : Progress) (goes : Goes rules p new) where
    first_more : (n : ℕ) → n < suc have.rounds → is_ended now (try_rounds rules s now None n old) ≡ false
    first_more n h = ⊎_elim (λ l. have.first n l) (λ e. ap (λ k. is_ended now (try_rounds rules s now None k old)) e ∙ ap (is_ended now) have.done.whole ∙ going) (no_more have.rounds n h)

    pub round_done : IsDone (λ limit. try_round rules s now limit p) new → HaveRounds rules s now old new
    round_done h = record {
      rounds = suc have.rounds;
      done = same_done (λ limit. try_round rules s now limit (try_rounds rules s now limit have.rounds old)) (λ limit. try_rounds rules s now limit (suc have.rounds) old) (λ limit. sym (rounds_more limit have.rounds old)) new
          (done_done rules (λ limit. try_rounds rules s now limit have.rounds old) (λ limit q. try_round rules s now limit q) (round_stays rules s now) p have.done new goes h);
      first = first_more;
    }

    pub round_cut : IsCut (λ limit. try_round rules s now limit p) new → CutRounds rules s now old new
    round_cut h = record {
      rounds = suc have.rounds;
      cut = same_cut (λ limit. try_round rules s now limit (try_rounds rules s now limit have.rounds old)) (λ limit. try_rounds rules s now limit (suc have.rounds) old) (λ limit. sym (rounds_more limit have.rounds old)) new
          (done_cut rules (λ limit. try_rounds rules s now limit have.rounds old) (λ limit q. try_round rules s now limit q) (round_stays rules s now) p have.done new goes h);
      first = first_more;
    }

  pub begin_rounds : (p : Progress) → HaveRounds rules s now p p
  begin_rounds p = record { rounds = 0; done = nothing_done p; first = λ n h. absurd (omega arith) }

  pub cut_between : (old p : Progress) → HaveRounds rules s now old p → CutRounds rules s now old p
  cut_between old p have = record { rounds = have.rounds; cut = have.done.first; first = have.first }

no_items : (refs : List Ref) → (length refs ≡ 0 → ⊥) → is_empty refs ≡ false
no_items [] h = absurd (h refl)
no_items (r ∷ rs) h = refl

-- a round begins where nothing stopped the settle and some record is due
pub still_going : (now : ℕ) (p : Progress) (refs : List Ref) → is_some p.stop ≡ false → refs ≡ due_refs now p.state → (length refs ≡ 0 → ⊥) → is_ended now p ≡ false
still_going now p refs a e h = ap (λ b. b || is_empty (due_refs now p.state)) a ∙ (ap is_empty (sym e) ∙ no_items refs h)
