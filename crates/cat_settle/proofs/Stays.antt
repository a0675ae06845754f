-- A settle that has as many events as it may have gets none more.
use Rattle.std.proofs.Common.{◌≡◌, ℕ, zero, suc, ◌≤◌, Bool, true, false, cond, List, [], ◌∷◌, refl, ◌∙◌, is_some, nat_le, arith}
use Rattle.std.proofs.lemmas.Bool.Decides.{nat_tests}
use Rattle.std.specs.declared.option.Option.{Option}
use Rattle.std.specs.declared.option.Option.TheVariants.{None, Some}
use Rattle.cat_collections.specs.Table.{get}
use Rattle.cat_model.specs.declared.types.Order.{Order}
use Rattle.cat_model.specs.declared.types.Progress.{Progress}
use Rattle.cat_model.specs.declared.types.Settings.{Settings}
use Rattle.cat_model.specs.declared.types.StitchOrder.{StitchOrder}
use Rattle.cat_model.specs.declared.types.Stop.TheVariants.{Limit}
use Rattle.cat_model.specs.Catalogue.{Ref, Rules}
use Rattle.cat_model.specs.Settle.{after_refusal, begun_round, by_ticket, due_refs, is_due, is_full, mark_order, order, try_event, try_finish, try_marks, try_round, try_rounds, try_stitch_with, try_stitches, try_take_and_finish, try_turn, try_turns}
use Rattle.cat_model.specs.Step.{Event, change, refusal}
use Rattle.cat_model.specs.Step.Event.{TakeAt, Finish, PutStitch}
use Rattle.cat_settle.proofs.Parts.{Stays}

-- q has the state and the events of p
abbrev SameAs : Progress → Progress → Type 0
SameAs p q = (q.state ≡ p.state) × (q.events ≡ p.events)

full : (n k : ℕ) → n ≤ k → nat_le n k ≡ true
full n k h = grind (arith, nat_tests)

module _ (rules : Rules) (s : Settings) (n : ℕ) where
  event_same : (e : Event) (p : Progress) → n ≤ p.events → SameAs p (try_event rules s (Some n) e p)
  event_same e p h = go (is_some p.stop) (is_full (Some n) p.events) (full n p.events h)
    where
      go : (b c : Bool) → c ≡ true → SameAs p (cond b p (cond c (record p { stop = Some Limit }) (after_refusal (refusal rules s e p.state) e (change rules s e p.state) p)))
      go true c f = (refl, refl)
      go false true f = (refl, refl)
      go false false f = absurd (cc)

  -- what follows on what is the same
  same_on : (p q r : Progress) → n ≤ p.events → SameAs p q → (n ≤ q.events → SameAs q r) → SameAs p r
  same_on p q r h a b = let e : n ≤ q.events = (let x = a.1 in omega arith) in ((b e).0 ∙ a.0, (b e).1 ∙ a.1)

  module _ (now : ℕ) where
    finish_same : (v : Option Order) (p : Progress) → n ≤ p.events → SameAs p (try_finish rules s now (Some n) v p)
    finish_same None p h = (refl, refl)
    finish_same (Some x) p h = event_same (Finish x now) p h

    pub taken_same : (r : Ref) (p : Progress) → n ≤ p.events → SameAs p (try_take_and_finish rules s now (Some n) r p)
    taken_same r p h =
        let q = try_event rules s (Some n) (TakeAt r now) p in
        same_on p q (try_take_and_finish rules s now (Some n) r p) h (event_same (TakeAt r now) p h) (λ l. finish_same (order rules q.state r) q l)

    pub turn_same : (r : Ref) (p : Progress) → n ≤ p.events → SameAs p (try_turn rules s now (Some n) r p)
    turn_same r p h = go (is_due now (get p.state.records r))
      where
        go : (b : Bool) → SameAs p (cond b (try_take_and_finish rules s now (Some n) r p) p)
        go true = taken_same r p h
        go false = (refl, refl)

    pub turns_same : (rs : List Ref) (p : Progress) → n ≤ p.events → SameAs p (try_turns rules s now (Some n) rs p)
    turns_same [] p h = (refl, refl)
    turns_same (r ∷ rs) p h = same_on p (try_turn rules s now (Some n) r p) (try_turns rules s now (Some n) (r ∷ rs) p) h (turn_same r p h) (λ l. turns_same rs (try_turn rules s now (Some n) r p) l)

    pub round_same : (p : Progress) → n ≤ p.events → SameAs p (try_round rules s now (Some n) p)
    round_same p h = turns_same (due_refs now p.state) (begun_round now p) h

    pub rounds_same : (k : ℕ) (p : Progress) → n ≤ p.events → SameAs p (try_rounds rules s now (Some n) k p)
    rounds_same zero p h = (refl, refl)
    rounds_same (suc k) p h = same_on p (try_round rules s now (Some n) p) (try_rounds rules s now (Some n) (suc k) p) h (round_same p h) (λ l. rounds_same k (try_round rules s now (Some n) p) l)

  stitch_same : (v : Option StitchOrder) (p : Progress) → n ≤ p.events → SameAs p (try_stitch_with rules s (Some n) v p)
  stitch_same None p h = (refl, refl)
  stitch_same (Some x) p h = event_same (PutStitch x) p h

  pub stitches_same : (rs : List Ref) (p : Progress) → n ≤ p.events → SameAs p (try_stitches rules s (Some n) rs p)
  stitches_same [] p h = (refl, refl)
  stitches_same (r ∷ rs) p h =
      let q = try_stitch_with rules s (Some n) (mark_order rules p.state r) p in
      same_on p q (try_stitches rules s (Some n) (r ∷ rs) p) h (stitch_same (mark_order rules p.state r) p h) (λ l. stitches_same rs q l)

module _ (rules : Rules) (s : Settings) where
  pub event_stays : (e : Event) → Stays (λ limit p. try_event rules s limit e p)
  event_stays e = record { state = λ n p h. (event_same rules s n e p h).0; events = λ n p h. (event_same rules s n e p h).1 }

  module _ (now : ℕ) where
    pub finish_stays : (v : Option Order) → Stays (λ limit p. try_finish rules s now limit v p)
    finish_stays v = record { state = λ n p h. (finish_same rules s n now v p h).0; events = λ n p h. (finish_same rules s n now v p h).1 }

    -- the order is that of the state reached
    pub order_stays : (r : Ref) → Stays (λ limit p. try_finish rules s now limit (order rules p.state r) p)
    order_stays r = record { state = λ n p h. (finish_same rules s n now (order rules p.state r) p h).0; events = λ n p h. (finish_same rules s n now (order rules p.state r) p h).1 }

    pub turns_stays : (rs : List Ref) → Stays (λ limit p. try_turns rules s now limit rs p)
    turns_stays rs = record { state = λ n p h. (turns_same rules s n now rs p h).0; events = λ n p h. (turns_same rules s n now rs p h).1 }

    pub round_stays : Stays (λ limit p. try_round rules s now limit p)
    round_stays = record { state = λ n p h. (round_same rules s n now p h).0; events = λ n p h. (round_same rules s n now p h).1 }

    pub rounds_stays : (k : ℕ) → Stays (λ limit p. try_rounds rules s now limit k p)
    rounds_stays k = record { state = λ n p h. (rounds_same rules s n now k p h).0; events = λ n p h. (rounds_same rules s n now k p h).1 }

  pub stitch_stays : (r : Ref) → Stays (λ limit p. try_stitch_with rules s limit (mark_order rules p.state r) p)
  stitch_stays r = record { state = λ n p h. (stitch_same rules s n (mark_order rules p.state r) p h).0; events = λ n p h. (stitch_same rules s n (mark_order rules p.state r) p h).1 }

  pub stitches_stays : (rs : List Ref) → Stays (λ limit p. try_stitches rules s limit rs p)
  stitches_stays rs = record { state = λ n p h. (stitches_same rules s n rs p h).0; events = λ n p h. (stitches_same rules s n rs p h).1 }

  pub marks_stays : Stays (λ limit p. try_marks rules s limit p)
  marks_stays = record { state = λ n p h. (stitches_same rules s n (by_ticket p.state.marks) p h).0; events = λ n p h. (stitches_same rules s n (by_ticket p.state.marks) p h).1 }
