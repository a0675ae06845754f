-- The first event of a settle leaves the stored rows as they are: it is a take, or nothing is due and it stitches.
use Rattle.std.proofs.Common.{◌≡◌, true≢false, ◌⊎◌, inl, inr, ℕ, zero, suc, ◌+◌, ◌-◌, ◌^◌, ◌≤◌, Bool, true, false, cond, ◌||◌, nat_le, List, [], ◌∷◌, refl, sym, ap, subst, ◌∙◌, is_some, min, arith}
use Rattle.std.proofs.lemmas.Bool.Decides.{nat_tests}
use Rattle.std.specs.declared.option.Option.{Option}
use Rattle.std.specs.declared.option.Option.TheVariants.{None, Some}
use Rattle.std.specs.FinMap.Entries.{is_sorted}
use Rattle.cat_collections.specs.Table.{get, text_cmp}
use Rattle.cat_model.specs.Catalogue.{Ref, Rules}
use Rattle.cat_model.specs.Settle.{after_refusal, begun_round, by_ticket, counted, due_refs, is_due, is_full, mark_order, not_begun, order, try_event, try_finish, try_marks, try_round, try_rounds, try_settle, try_stitch_with, try_stitches, try_take_and_finish, try_turn, try_turns, width}
use Rattle.cat_model.specs.Step.{Event, change, refusal, step}
use Rattle.cat_model.specs.Step.Event.{Finish, PutStitch, TakeAt}
use Rattle.cat_model.specs.declared.types.Fault.{Fault}
use Rattle.cat_model.specs.declared.types.Order.{Order}
use Rattle.cat_model.specs.declared.types.OrphanRule.{OrphanRule}
use Rattle.cat_model.specs.declared.types.Progress.{Progress}
use Rattle.cat_model.specs.declared.types.Settings.{Settings}
use Rattle.cat_model.specs.declared.types.State.{State}
use Rattle.cat_model.specs.declared.types.Stop.TheVariants.{Limit, Refused}
use Rattle.cat_model.specs.declared.types.StitchOrder.{StitchOrder}
use Rattle.cat_stored_rows.specs.Stored.{stored}
use Rattle.cat_store.proofs.Unstored.{put_stitch_still, take_at_still}

-- one more is at least one
one_counted : (n k : ℕ) → n ≤ 1 → nat_le n (counted k) ≡ true
one_counted n k small = grind (arith, nat_tests)

or_true : (a b : Bool) → b ≡ true → (a || b) ≡ true
or_true true b h = refl
or_true false b h = h

both_false : (a b : Bool) → (a || b) ≡ false → (a ≡ false) × (b ≡ false)
both_false true b h = absurd (true≢false h)
both_false false b h = (refl, h)

module _ (rules : Rules) (s : Settings) (rule : OrphanRule) (now n : ℕ) (small : n ≤ 1) (m : State) (sorted : is_sorted text_cmp m.records ≡ true) where
  -- whether a settle stands still from here on
  abbrev is_still : Progress → Bool
  is_still p = is_some p.stop || nat_le n p.events

  -- the rows are those of m
  abbrev HasRows : Progress → Type 0
  HasRows p = stored rule p.state ≡ stored rule m

  -- nothing has happened yet, or the settle stands still, with the rows of m
  record Begins (p : Progress) : Type 0 where
    rows : HasRows p
    either : (p.state ≡ m) ⊎ (is_still p ≡ true)

  -- what stands still keeps its state
  record Rests (p q : Progress) : Type 0 where
    state : q.state ≡ p.state
    still : is_still q ≡ true

  rests_on : (p q : Progress) → HasRows p → Rests p q → Begins q
  rests_on p q rows r = record { rows = ap (stored rule) r.state ∙ rows; either = inr r.still }

  event_rests : (e : Event) (p : Progress) → is_still p ≡ true → Rests p (try_event rules s (Some n) e p)
  event_rests e p still = go (is_some p.stop) refl (nat_le n p.events) refl
    where
      go : (b : Bool) → is_some p.stop ≡ b → (c : Bool) → nat_le n p.events ≡ c → Rests p (cond b p (cond c (record p { stop = Some Limit }) (after_refusal (refusal rules s e p.state) e (change rules s e p.state) p)))
      go true a c b = record { state = refl; still = still }
      go false a true b = record { state = refl; still = refl }
      go false a false b = absurd (true≢false (sym still ∙ (ap (λ t. t || nat_le n p.events) a ∙ b)))

  -- where a settle goes on, an event happens
  going : (e : Event) (p : Progress) → is_some p.stop ≡ false → nat_le n p.events ≡ false → try_event rules s (Some n) e p ≡ after_refusal (refusal rules s e p.state) e (change rules s e p.state) p
  going e p a b =
      ap (λ t. cond t p (cond (nat_le n p.events) (record p { stop = Some Limit }) (after_refusal (refusal rules s e p.state) e (change rules s e p.state) p))) a
      ∙ ap (λ t. cond t (record p { stop = Some Limit }) (after_refusal (refusal rules s e p.state) e (change rules s e p.state) p)) b

  changed : (e : Event) (k : State) → refusal rules s e k ≡ None → change rules s e k ≡ step rules s e k
  unfolding step
  changed e k h = ap (λ v. cond (is_some v) k (change rules s e k)) (sym h)

  event_rows : (e : Event) (p : Progress) (v : Option Fault) → refusal rules s e p.state ≡ v → stored rule (step rules s e p.state) ≡ stored rule m → HasRows p → HasRows (after_refusal v e (change rules s e p.state) p)
  event_rows e p None h after rows = ap (stored rule) (changed e p.state h) ∙ after
  event_rows e p (Some fault) h after rows = rows

  -- ---- takes and finishes

  take_still_after : (r : Ref) (k : State) (p : Progress) (v : Option Fault) → is_still (after_refusal v (TakeAt r now) k p) ≡ true
  take_still_after r k p None = or_true (is_some p.stop) _ (one_counted n p.events small)
  take_still_after r k p (Some fault) = refl

  take_begins : (r : Ref) (p : Progress) → Begins p → Begins (try_event rules s (Some n) (TakeAt r now) p) × (is_still (try_event rules s (Some n) (TakeAt r now) p) ≡ true)
  take_begins r p h = go (is_still p) refl
    where
      e : Event
      e = TakeAt r now

      goes : p.state ≡ m → is_still p ≡ false → Begins (try_event rules s (Some n) e p) × (is_still (try_event rules s (Some n) e p) ≡ true)
      goes same moving =
          let two = both_false (is_some p.stop) (nat_le n p.events) moving in
          let is = sym (going e p two.0 two.1) in
          let after : stored rule (step rules s e p.state) ≡ stored rule m = ap (λ k. stored rule (step rules s e k)) same ∙ take_at_still rules s rule r now m sorted in
          let still = take_still_after r (change rules s e p.state) p (refusal rules s e p.state) in
          subst (λ q. Begins q × (is_still q ≡ true)) is (record { rows = event_rows e p (refusal rules s e p.state) refl after h.rows; either = inr still }, still)

      go : (b : Bool) → is_still p ≡ b → Begins (try_event rules s (Some n) e p) × (is_still (try_event rules s (Some n) e p) ≡ true)
      go true still = let r = event_rests e p still in (rests_on p (try_event rules s (Some n) e p) h.rows r, r.still)
      go false moving = elim h.either [ inl same ↦ goes same moving | inr still ↦ absurd (true≢false (sym still ∙ moving)) ]

  finish_begins : (o : Option Order) (p : Progress) → Begins p → is_still p ≡ true → Begins (try_finish rules s now (Some n) o p)
  finish_begins None p h still = h
  finish_begins (Some x) p h still = rests_on p (try_finish rules s now (Some n) (Some x) p) h.rows (event_rests (Finish x now) p still)

  turn_begins : (r : Ref) (p : Progress) → Begins p → Begins (try_turn rules s now (Some n) r p)
  turn_begins r p h = go (is_due now (get p.state.records r))
    where
      go : (b : Bool) → Begins (cond b (try_take_and_finish rules s now (Some n) r p) p)
      go true = let t = take_begins r p h in let q = try_event rules s (Some n) (TakeAt r now) p in finish_begins (order rules q.state r) q t.0 t.1
      go false = h

  turns_begin : (rs : List Ref) (p : Progress) → Begins p → Begins (try_turns rules s now (Some n) rs p)
  turns_begin [] p h = h
  turns_begin (r ∷ rs) p h = turns_begin rs (try_turn rules s now (Some n) r p) (turn_begins r p h)

  round_begins : (p : Progress) → Begins p → Begins (try_round rules s now (Some n) p)
  round_begins p h = turns_begin (due_refs now p.state) (begun_round now p) (record { rows = h.rows; either = h.either })

  rounds_begin : (k : ℕ) (p : Progress) → Begins p → Begins (try_rounds rules s now (Some n) k p)
  rounds_begin zero p h = h
  rounds_begin (suc k) p h = rounds_begin k (try_round rules s now (Some n) p) (round_begins p h)

  -- ---- stitches

  put_rows : (x : StitchOrder) (p : Progress) → HasRows p → HasRows (try_event rules s (Some n) (PutStitch x) p)
  put_rows x p rows = go (is_some p.stop) (nat_le n p.events)
    where
      e : Event
      e = PutStitch x

      go : (b c : Bool) → HasRows (cond b p (cond c (record p { stop = Some Limit }) (after_refusal (refusal rules s e p.state) e (change rules s e p.state) p)))
      go true c = rows
      go false true = rows
      go false false = event_rows e p (refusal rules s e p.state) refl (put_stitch_still rules s rule x p.state ∙ rows) rows

  stitch_rows : (o : Option StitchOrder) (p : Progress) → HasRows p → HasRows (try_stitch_with rules s (Some n) o p)
  stitch_rows None p rows = rows
  stitch_rows (Some x) p rows = put_rows x p rows

  stitches_rows : (rs : List Ref) (p : Progress) → HasRows p → HasRows (try_stitches rules s (Some n) rs p)
  stitches_rows [] p rows = rows
  stitches_rows (r ∷ rs) p rows = stitches_rows rs (try_stitch_with rules s (Some n) (mark_order rules p.state r) p) (stitch_rows (mark_order rules p.state r) p rows)

  -- a settle that has one event at most leaves the stored rows
  pub first_still : stored rule (try_settle rules s now (Some n) m).state ≡ stored rule m
  unfolding try_settle
  first_still =
      let p = try_rounds rules s now (Some n) (width rules m) (not_begun m) in
      stitches_rows (by_ticket p.state.marks) p (rounds_begin (width rules m) (not_begun m) (record { rows = refl; either = inl refl })).rows
