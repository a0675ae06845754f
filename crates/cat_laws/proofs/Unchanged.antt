-- What is settled stays, each round settles more, and so a settle is short.
use Rattle.std.proofs.Common.{◌≡◌, ℕ, zero, suc, ◌+◌, ◌*◌, ◌^◌, ◌<◌, ◌≤◌, Bool, true, false, cond, ⊎_elim, List, [], ◌∷◌, ◌++◌, length, refl, sym, ap, subst, ◌∙◌, is_some, unwrap_or, true≢false, arith}
use Rattle.std.specs.declared.option.Option.{Option}
use Rattle.std.specs.declared.option.Option.TheVariants.{None, Some}
use Rattle.std.specs.Option.{option_and_then}
use Rattle.std.proofs.lemmas.Bool.Decides.{nat_tests}
use Rattle.cat_collections.specs.Table.{Map, get, put, text_cmp}
use Rattle.cat_collections.proofs.Tables.{or_true}
use Rattle.cat_model.specs.declared.types.State.{State}
use Rattle.cat_model.specs.declared.types.Record.{Record}
use Rattle.cat_model.specs.declared.types.Lease.{Lease}
use Rattle.cat_model.specs.declared.types.Settings.{Settings}
use Rattle.cat_model.specs.declared.types.Order.{Order}
use Rattle.cat_model.specs.declared.types.StitchOrder.{StitchOrder}
use Rattle.cat_model.specs.declared.types.Progress.{Progress}
use Rattle.cat_model.specs.Catalogue.{Ref, Tree, Rules, work}
use Rattle.cat_model.specs.Sound.{Sound}
use Rattle.cat_model.specs.Step.{Event, change, step, run, is_present_stitch, without_key}
use Rattle.cat_model.specs.Step.Event.{Mutate, ShelfPut, ShelfDrop, Refresh, Forget, ForgetNumber, Take, TakeAt, Finish, PutStitch}
use Rattle.cat_model.specs.Settle.{is_due, order, order_with, due_refs, by_ticket, width, width_refs, is_empty, is_ended, begun_round, counted, IsSettled, StaySettled, SettleMore, try_event, try_finish, try_take_and_finish, try_turn, try_turns, try_round, try_rounds, try_stitch_with, mark_order, try_stitches, try_settle, not_begun, IsSettleEvent, AreSettleEvents, first_events, HasEvents}
use Rattle.cat_model.specs.Settle.IsSettled.{by_provider, by_entity}
use Rattle.cat_laws.proofs.Plan.{Tries, at_event, round_plan, exec_round}
use Rattle.cat_laws.proofs.Plan.Tries.{stopped, full, refused, acts}
use Rattle.cat_laws.proofs.Cut.{step_acts, run-append, first_events-all, has_events, exec_extends, fits_round}
use Rattle.cat_laws.proofs.Ended.{round_rounds, marks_rounds}
use Rattle.cat_laws.proofs.Tried.{tried_turns}
use Rattle.cat_laws.proofs.Steps.{stitch_kept, run_kept}
use Rattle.cat_laws.proofs.Settled.{IsKnown, Leaves, leaves_on, leaves_same, take_leaves, finish_leaves, taken_is, finished_is, its_order-is, due_cases, some_ready, settled_not_due, ready_in_round, turns_leave, due_few, none_known, held_in_width, shelf_in_width}

module _ (rules : Rules) (s : Settings) (now : ℕ) (later : 1 ≤ s.interval) where
  abbrev Left : State → State → Type 0
  Left m n = Leaves rules s now later m n

  is_le : (x : Record) → is_due now (Some x) ≡ true → x.due ≤ now
  is_le x h = grind (arith, nat_tests)

  take_at : (m : State) → Sound rules m → (r : Ref) (v : Option Record) → get m.records r ≡ v → is_due now v ≡ true → Left m (change rules s (TakeAt r now) m)
  take_at m sound r None e d = absurd (true≢false (sym d))
  take_at m sound r (Some x) e d = subst (Left m) (sym (taken_is rules s now later m sound r x e (is_le x d))) (take_leaves rules s now later m sound r x e (is_le x d))

  finish_at : (m : State) → Sound rules m → (o : Order) → order rules m o.reference ≡ Some o → (v : Option Record) → get m.records o.reference ≡ v → is_due now v ≡ true → Left m (change rules s (Finish o now) m)
  finish_at m sound o is None e d = absurd (true≢false (sym d))
  finish_at m sound o is (Some x) e d = leased x.lease refl (ap (λ v. order_with o.reference (option_and_then (λ (x : Record). x.lease) v) (work rules m o.reference)) (sym e) ∙ is)
    where
      due : x.due ≤ now
      due = is_le x d

      same : (lease : Lease) → (l : x.lease ≡ Some lease) → (p : Order) → order rules m o.reference ≡ Some p → p ≡ o
      same lease l p h = ap (λ v. unwrap_or v p) (sym h ∙ is)

      leased : (v : Option Lease) → x.lease ≡ v → order_with o.reference v (work rules m o.reference) ≡ Some o → Left m (change rules s (Finish o now) m)
      leased None l h = absurd (true≢false (sym (ap is_some h)))
      leased (Some lease) l h = subst (λ p. Left m (change rules s (Finish p now) m)) (same lease l _ (its_order-is rules s now later m sound o.reference x e due lease l))
          (subst (Left m) (sym (finished_is rules s now later m sound o.reference x e due lease l)) (finish_leaves rules s now later m sound o.reference x e due lease l))

  settled_marks : (m : State) (documents : Map Tree) (marks : Map ℕ) (r : Ref) → IsSettled now m r → IsSettled now (record m { documents = documents; marks = marks }) r
  settled_marks m documents marks r (by_provider z row p is lt h o) = by_provider z row p is lt h o
  settled_marks m documents marks r (by_entity z row e is lt h o up) = by_entity z row e is lt h o (settled_marks m documents marks e up)

  stitch_at : (m : State) → Sound rules m → (x : StitchOrder) → Left m (change rules s (PutStitch x) m)
  stitch_at m sound x = go (is_present_stitch rules m x) (stitch_kept rules s m sound x)
    where
      go : (b : Bool) → Sound rules (cond b (record m { documents = put text_cmp x.reference (rules.doc x.parts) m.documents; marks = without_key x.reference m.marks }) m)
          → Left m (cond b (record m { documents = put text_cmp x.reference (rules.doc x.parts) m.documents; marks = without_key x.reference m.marks }) m)
      go true h = record { sound = h; settled = settled_marks m _ _; same = λ r k. refl; within = λ refs a b. a; shelf = refl }
      go false h = leaves_same rules s now later m sound

  event_leaves : (e : Event) (m : State) → Sound rules m → IsSettleEvent rules now m e → Left m (change rules s e m)
  event_leaves (TakeAt r k) m sound is = subst (λ j. Left m (change rules s (TakeAt r j) m)) (sym is.0) (take_at m sound r (get m.records r) refl is.1)
  event_leaves (Finish o k) m sound is = subst (λ j. Left m (change rules s (Finish o j) m)) (sym is.0) (finish_at m sound o is.2 (get m.records o.reference) refl is.1)
  event_leaves (PutStitch x) m sound is = stitch_at m sound x
  event_leaves (Mutate p x) m sound is = absurd is
  event_leaves (ShelfPut name text) m sound is = absurd is
  event_leaves (ShelfDrop name) m sound is = absurd is
  event_leaves (Refresh r) m sound is = absurd is
  event_leaves (Forget r) m sound is = absurd is
  event_leaves (ForgetNumber number) m sound is = absurd is
  event_leaves (Take k) m sound is = absurd is

  -- what events of a settle leave
  pub events_leave : (es : List Event) (m : State) → Sound rules m → AreSettleEvents rules s now m es → Left m (run rules s es m)
  events_leave [] m sound are = leaves_same rules s now later m sound
  events_leave (e ∷ es) m sound are =
      let first = subst (Left m) (sym (step_acts rules s e m are.1)) (event_leaves e m sound are.0) in
      leaves_on rules s now later m (step rules s e m) (run rules s es (step rules s e m)) first (events_leave es (step rules s e m) first.sound are.2)

  first_are : (n : ℕ) (es : List Event) (m : State) → AreSettleEvents rules s now m es → AreSettleEvents rules s now m (first_events n es)
  first_are zero es m are = tt
  first_are (suc n) [] m are = tt
  first_are (suc n) (e ∷ es) m are = (are.0, are.1, first_are n es (step rules s e m) are.2)

  later_events : (a b : ℕ) (es : List Event) (m : State) → a ≤ b → AreSettleEvents rules s now m es
      → (fs : List Event) × (first_events b es ≡ first_events a es ++ fs) × AreSettleEvents rules s now (run rules s (first_events a es) m) fs
  later_events zero b es m le are = (first_events b es, refl, first_are b es m are)
  later_events (suc a) zero es m le are = absurd (omega arith)
  later_events (suc a) (suc b) [] m le are = ([], refl, tt)
  later_events (suc a) (suc b) (e ∷ es) m le are = let x = later_events a b es (step rules s e m) (omega arith) are.2 in (x.0, ap (λ gs. e ∷ gs) x.1, x.2)

  module _ (m : State) (sound : Sound rules m) where
    between : (a b : ℕ) (es : List Event) → a ≤ b → AreSettleEvents rules s now m es → Left (run rules s (first_events a es) m) (run rules s (first_events b es) m)
    between a b es le are =
        let x = later_events a b es m le are in
        subst (λ gs. Left (run rules s (first_events a es) m) (run rules s gs m)) (sym x.1)
        (subst (Left (run rules s (first_events a es) m)) (sym (run-append rules s (first_events a es) x.0 m))
        (events_leave x.0 (run rules s (first_events a es) m) (run_kept rules s (first_events a es) m sound) x.2))

    stay : (l n : State) → Left l n → StaySettled now l n
    stay l n x = record { settled = x.settled; same = x.same }

    pub stay_settled : (a b : ℕ) → a ≤ b → b < 2 ^ 64 → StaySettled now (try_settle rules s now (Some a) m).state (try_settle rules s now (Some b) m).state
    stay_settled a b le lt = at (has_events rules s now m)
      where
        at : HasEvents rules s now m → StaySettled now (try_settle rules s now (Some a) m).state (try_settle rules s now (Some b) m).state
        at h =
            subst (λ l. StaySettled now l (try_settle rules s now (Some b) m).state) (sym (h.cut a (omega arith)))
            (subst (StaySettled now (run rules s (first_events a h.events) m)) (sym (h.cut b lt)) (stay _ _ (between a b h.events le h.are)))

    pub stay_to_end : (a : ℕ) → a < 2 ^ 64 → StaySettled now (try_settle rules s now (Some a) m).state (try_settle rules s now None m).state
    stay_to_end a lt = at (has_events rules s now m)
      where
        at : HasEvents rules s now m → StaySettled now (try_settle rules s now (Some a) m).state (try_settle rules s now None m).state
        at h =
            subst (λ l. StaySettled now l (try_settle rules s now None m).state) (sym (h.cut a lt))
            (subst (StaySettled now (run rules s (first_events a h.events) m))
            (ap (λ es. run rules s es m) (first_events-all (a + length h.events) h.events (omega arith)) ∙ sym h.whole)
            (stay _ _ (between a (a + length h.events) h.events (omega arith) h.are)))

  module _ (limit : Option ℕ) where
    -- a round that isn't stopped settles one more
    pub round_more : (p : Progress) → Sound rules p.state → is_ended now p ≡ false → (try_round rules s now limit p).stop ≡ None → SettleMore now p.state (try_round rules s now limit p).state
    round_more p sound unended h = subst (SettleMore now p.state) (sym (tried_turns rules s limit now (due_refs now p.state) (begun_round now p) h).state)
        (⊎_elim
        (λ none. absurd (true≢false (sym (or_true (is_some p.stop) (is_empty (due_refs now p.state)) (ap is_empty none)) ∙ unended)))
        (λ d.
        let q = some_ready rules s now later p.state sound d.0 d.1 d.2 d.3 in
        let l = turns_leave rules s now later (due_refs now p.state) p.state sound in
        record {
          stay = record { settled = l.0.settled; same = l.0.same };
          reference = q.0;
          before = λ settled. let lt = settled_not_due rules s now later p.state sound q.0 settled q.1.x q.1.at in let le = q.1.due in absurd (omega arith);
          after = l.1 q.0 q.1 (ready_in_round rules s now later p.state q.0 q.1);
        })
        (due_cases rules s now later p.state))

    -- rounds and leases are counted
    finish_leases : (v : Option Order) (p : Progress) → (try_finish rules s now limit v p).leases ≡ p.leases
    finish_leases None p = refl
    finish_leases (Some x) p = at (try_event rules s limit (Finish x now) p) (at_event rules s now limit (Finish x now) p)
      where
        at : (q : Progress) → Tries rules s now limit (Finish x now) p q → q.leases ≡ p.leases
        at q (stopped y f) = refl
        at q (full f g) = refl
        at q (refused y f g h) = refl
        at q (acts f g h) = refl

    turn_leases : (r : Ref) (p : Progress) → (try_turn rules s now limit r p).leases ≤ p.leases + 1
    turn_leases r p = go (is_due now (get p.state.records r))
      where
        at : (q : Progress) → Tries rules s now limit (TakeAt r now) p q → q.leases ≤ p.leases + 1
        at q (stopped y f) = omega arith
        at q (full f g) = omega arith
        at q (refused y f g h) = omega arith
        at q (acts f g h) = omega arith

        go : (b : Bool) → (cond b (try_take_and_finish rules s now limit r p) p).leases ≤ p.leases + 1
        go true =
            let q = try_event rules s limit (TakeAt r now) p in
            let a = at q (at_event rules s now limit (TakeAt r now) p) in
            let b = finish_leases (order rules q.state r) q in
            omega arith
        go false = omega arith

    turns_leases : (rs : List Ref) (p : Progress) → (try_turns rules s now limit rs p).leases ≤ p.leases + length rs
    turns_leases [] p = omega arith
    turns_leases (r ∷ rs) p =
        let a = turn_leases r p in
        let b = turns_leases rs (try_turn rules s now limit r p) in
        omega arith

    round_leaves : (p : Progress) → Sound rules p.state → Left p.state (try_round rules s now limit p).state
    round_leaves p sound = subst (λ (q : Progress). Left p.state q.state) (exec_round rules s now limit p)
        (let x = exec_extends rules s now limit (round_plan rules s now) (fits_round rules s now) p in
        subst (Left p.state) (sym x.state) (events_leave x.events p.state sound x.are))

    rounds_leases : (refs : List Ref) (n : ℕ) (p : Progress) → IsKnown rules s now later refs p.state (λ r. false) → (try_rounds rules s now limit n p).leases ≤ p.leases + n * length refs
    rounds_leases refs zero p k = omega arith
    rounds_leases refs (suc n) p k =
        let a = turns_leases (due_refs now p.state) (begun_round now p) in
        let b = due_few rules s now later refs p.state (λ r. false) k in
        let c = rounds_leases refs n (try_round rules s now limit p) (none_known rules s now later refs p.state (try_round rules s now limit p).state (round_leaves p k.sound) k) in
        omega arith

    stitch_leases : (v : Option StitchOrder) (p : Progress) → (try_stitch_with rules s limit v p).leases ≡ p.leases
    stitch_leases None p = refl
    stitch_leases (Some x) p = at (try_event rules s limit (PutStitch x) p) (at_event rules s now limit (PutStitch x) p)
      where
        at : (q : Progress) → Tries rules s now limit (PutStitch x) p q → q.leases ≡ p.leases
        at q (stopped y f) = refl
        at q (full f g) = refl
        at q (refused y f g h) = refl
        at q (acts f g h) = refl

    stitches_leases : (rs : List Ref) (p : Progress) → (try_stitches rules s limit rs p).leases ≡ p.leases
    stitches_leases [] p = refl
    stitches_leases (r ∷ rs) p = stitches_leases rs (try_stitch_with rules s limit (mark_order rules p.state r) p) ∙ stitch_leases (mark_order rules p.state r) p

    rounds_rounds : (n : ℕ) (p : Progress) → (try_rounds rules s now limit n p).rounds ≤ p.rounds + n
    rounds_rounds zero p = omega arith
    rounds_rounds (suc n) p =
        let a = at (is_ended now p) (round_rounds rules s now limit p) in
        let b = rounds_rounds n (try_round rules s now limit p) in
        omega arith
      where
        at : (b : Bool) → (try_round rules s now limit p).rounds ≡ cond b p.rounds (counted p.rounds) → (try_round rules s now limit p).rounds ≤ p.rounds + 1
        at true h = omega arith
        at false h = omega arith

    module _ (m : State) (sound : Sound rules m) where
      pub settle_rounds : (try_settle rules s now limit m).rounds ≤ width rules m
      unfolding try_settle
      settle_rounds =
          let q = try_rounds rules s now limit (width rules m) (not_begun m) in
          let a = rounds_rounds (width rules m) (not_begun m) in
          let b = marks_rounds rules s now limit q in
          omega arith

      pub settle_leases : (try_settle rules s now limit m).leases ≤ width rules m * width rules m
      unfolding try_settle
      settle_leases =
          let q = try_rounds rules s now limit (width rules m) (not_begun m) in
          let a = rounds_leases (width_refs rules m) (width rules m) (not_begun m)
          (record { sound = sound; held_in = held_in_width rules s now later m sound; shelf_in = shelf_in_width rules s now later m sound; settled = λ r h. absurd (true≢false (sym h)) }) in
          let b = stitches_leases (by_ticket q.state.marks) q in
          omega arith
