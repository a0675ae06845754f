-- A settle as a plan: what it does next follows from the state that it meets.
use Rattle.std.proofs.Common.{◌≡◌, ℕ, zero, suc, ◌+◌, Bool, true, false, cond, ◌||◌, List, [], ◌∷◌, refl, sym, ap, ◌∙◌, is_some}
use Rattle.std.specs.declared.option.Option.{Option}
use Rattle.std.specs.declared.option.Option.TheVariants.{None, Some}
use Rattle.std.specs.Option.{option_map}
use Rattle.cat_collections.specs.Table.{get}
use Rattle.cat_collections.proofs.Tables.{text_total, text_antisymmetric, find-put_same}
use Rattle.cat_model.specs.declared.types.State.{State}
use Rattle.cat_model.specs.declared.types.Record.{Record}
use Rattle.cat_model.specs.declared.types.Settings.{Settings}
use Rattle.cat_model.specs.declared.types.Order.{Order}
use Rattle.cat_model.specs.declared.types.StitchOrder.{StitchOrder}
use Rattle.cat_model.specs.declared.types.Fault.{Fault}
use Rattle.cat_model.specs.declared.types.Stop.{Stop}
use Rattle.cat_model.specs.declared.types.Stop.TheVariants.{Refused, Limit}
use Rattle.cat_model.specs.declared.types.Progress.{Progress}
use Rattle.cat_model.specs.Catalogue.{Ref, Rules}
use Rattle.cat_model.specs.Step.{Event, change, refusal, take, leased}
use Rattle.cat_model.specs.Step.Event.{TakeAt, Finish, PutStitch}
use Rattle.cat_model.specs.Settle.{is_due, order, due_refs, by_ticket, width, counted, stood, after_refusal, is_full, try_event, try_finish, try_take_and_finish, try_turn, try_turns, begun_round, try_round, try_rounds, try_stitch_with, mark_order, try_stitches, try_marks, not_begun, try_settle, is_empty}

pub data Plan : Type 0 where
  idle : Plan
  act : (State → Option Event) → Plan
  look : (State → Plan) → Plan
  both : Plan → Plan → Plan
  begins : Plan

module _ (rules : Rules) (s : Settings) (now : ℕ) where
  -- what may come of an event that is tried
  pub data Tries (limit : Option ℕ) (e : Event) (p : Progress) : Progress → Type 0 where
    stopped : (x : Stop) → p.stop ≡ Some x → Tries limit e p p
    full : p.stop ≡ None → is_full limit p.events ≡ true → Tries limit e p (record p { stop = Some Limit })
    refused : (fault : Fault) → p.stop ≡ None → is_full limit p.events ≡ false → refusal rules s e p.state ≡ Some fault → Tries limit e p (record p { stop = Some (Refused fault) })
    acts : p.stop ≡ None → is_full limit p.events ≡ false → refusal rules s e p.state ≡ None → Tries limit e p (stood e (change rules s e p.state) p)

  pub at_event : (limit : Option ℕ) (e : Event) (p : Progress) → Tries limit e p (try_event rules s limit e p)
  at_event limit e p = go p.stop refl
    where
      inner : p.stop ≡ None → is_full limit p.events ≡ false → (v : Option Fault) → refusal rules s e p.state ≡ v → Tries limit e p (after_refusal v e (change rules s e p.state) p)
      inner f g None h = acts f g h
      inner f g (Some x) h = refused x f g h

      outer : p.stop ≡ None → (b : Bool) → is_full limit p.events ≡ b → Tries limit e p (cond b (record p { stop = Some Limit }) (after_refusal (refusal rules s e p.state) e (change rules s e p.state) p))
      outer f true g = full f g
      outer f false g = inner f g (refusal rules s e p.state) refl

      go : (v : Option Stop) → p.stop ≡ v → Tries limit e p (cond (is_some v) p (cond (is_full limit p.events) (record p { stop = Some Limit }) (after_refusal (refusal rules s e p.state) e (change rules s e p.state) p)))
      go None f = outer f (is_full limit p.events) refl
      go (Some x) f = stopped x f

  abbrev pub try_some : Option ℕ → Option Event → Progress → Progress
  try_some limit None p = p
  try_some limit (Some e) p = try_event rules s limit e p

  abbrev pub exec : Option ℕ → Plan → Progress → Progress
  exec limit idle p = p
  exec limit (act f) p = try_some limit (f p.state) p
  exec limit (look f) p = exec limit (f p.state) p
  exec limit (both a b) p = exec limit b (exec limit a p)
  exec limit begins p = begun_round now p

  abbrev pub take_event : Ref → State → Option Event
  take_event r m = cond (is_due now (get m.records r)) (Some (TakeAt r now)) None

  abbrev pub finish_event : Ref → State → Option Event
  finish_event r m = cond (is_due now (get m.records r)) (option_map (λ x. Finish x now) (order rules m r)) None

  abbrev pub stitch_event : Ref → State → Option Event
  stitch_event r m = option_map PutStitch (mark_order rules m r)

  abbrev pub turn_plan : Ref → Plan
  turn_plan r = both (act (take_event r)) (act (finish_event r))

  abbrev pub turns_plan : List Ref → Plan
  turns_plan [] = idle
  turns_plan (r ∷ rs) = both (turn_plan r) (turns_plan rs)

  abbrev pub round_plan : Plan
  round_plan = look (λ m. both begins (turns_plan (due_refs now m)))

  abbrev pub rounds_plan : ℕ → Plan
  rounds_plan zero = idle
  rounds_plan (suc n) = both round_plan (rounds_plan n)

  abbrev pub stitches_plan : List Ref → Plan
  stitches_plan [] = idle
  stitches_plan (r ∷ rs) = both (act (stitch_event r)) (stitches_plan rs)

  abbrev pub marks_plan : Plan
  marks_plan = look (λ m. stitches_plan (by_ticket m.marks))

  abbrev pub settle_plan : ℕ → Plan
  settle_plan w = both (rounds_plan w) marks_plan

  module _ (limit : Option ℕ) where
    -- a record that is due still is where its take was tried
    still_due : (r : Ref) (p : Progress) → is_due now (get p.state.records r) ≡ true → is_due now (get (try_event rules s limit (TakeAt r now) p).state.records r) ≡ true
    still_due r p h = go (try_event rules s limit (TakeAt r now) p) (at_event limit (TakeAt r now) p)
      where
        taken : (v : Option Record) → get p.state.records r ≡ v → is_due now (get (take s r now p.state v).records r) ≡ true
        taken None e = h
        taken (Some x) e =
            ap (is_due now) (find-put_same text_total text_antisymmetric r (leased x.due x (Some (record { token = p.state.token; expires = now + s.lease }))) p.state.records)
            ∙ sym (ap (is_due now) e) ∙ h

        go : (q : Progress) → Tries limit (TakeAt r now) p q → is_due now (get q.state.records r) ≡ true
        go q (stopped x f) = h
        go q (full f g) = h
        go q (refused x f g i) = h
        go q (acts f g i) = taken (get p.state.records r) refl

    pub exec_finish : (v : Option Order) (p : Progress) → try_some limit (option_map (λ x. Finish x now) v) p ≡ try_finish rules s now limit v p
    exec_finish None p = refl
    exec_finish (Some x) p = refl

    pub exec_turn : (r : Ref) (p : Progress) → exec limit (turn_plan r) p ≡ try_turn rules s now limit r p
    exec_turn r p = go (is_due now (get p.state.records r)) refl
      where
        go : (b : Bool) → is_due now (get p.state.records r) ≡ b
            → exec limit (act (finish_event r)) (try_some limit (cond b (Some (TakeAt r now)) None) p) ≡ cond b (try_take_and_finish rules s now limit r p) p
        go true h = let taken = try_event rules s limit (TakeAt r now) p in
            ap (λ b. try_some limit (cond b (option_map (λ x. Finish x now) (order rules taken.state r)) None) taken) (still_due r p h)
            ∙ exec_finish (order rules taken.state r) taken
        go false h = ap (λ b. try_some limit (cond b (option_map (λ x. Finish x now) (order rules p.state r)) None) p) h

    pub exec_turns : (rs : List Ref) (p : Progress) → exec limit (turns_plan rs) p ≡ try_turns rules s now limit rs p
    exec_turns [] p = refl
    exec_turns (r ∷ rs) p = exec_turns rs (exec limit (turn_plan r) p) ∙ ap (try_turns rules s now limit rs) (exec_turn r p)

    pub exec_round : (p : Progress) → exec limit round_plan p ≡ try_round rules s now limit p
    exec_round p = exec_turns (due_refs now p.state) (begun_round now p)

    pub exec_rounds : (n : ℕ) (p : Progress) → exec limit (rounds_plan n) p ≡ try_rounds rules s now limit n p
    exec_rounds zero p = refl
    exec_rounds (suc n) p = exec_rounds n (exec limit round_plan p) ∙ ap (try_rounds rules s now limit n) (exec_round p)

    pub exec_stitch : (v : Option StitchOrder) (p : Progress) → try_some limit (option_map PutStitch v) p ≡ try_stitch_with rules s limit v p
    exec_stitch None p = refl
    exec_stitch (Some x) p = refl

    pub exec_stitches : (rs : List Ref) (p : Progress) → exec limit (stitches_plan rs) p ≡ try_stitches rules s limit rs p
    exec_stitches [] p = refl
    exec_stitches (r ∷ rs) p = exec_stitches rs (exec limit (act (stitch_event r)) p) ∙ ap (try_stitches rules s limit rs) (exec_stitch (mark_order rules p.state r) p)

    pub exec_marks : (p : Progress) → exec limit marks_plan p ≡ try_marks rules s limit p
    exec_marks p = exec_stitches (by_ticket p.state.marks) p

    pub exec_settle : (m : State) → exec limit (settle_plan (width rules m)) (not_begun m) ≡ try_settle rules s now limit m
    unfolding try_settle
    exec_settle m = exec_marks (exec limit (rounds_plan (width rules m)) (not_begun m)) ∙ ap (try_marks rules s limit) (exec_rounds (width rules m) (not_begun m))

    -- what is stopped stays
    pub exec_stopped : (plan : Plan) (p : Progress) (x : Stop) → p.stop ≡ Some x → exec limit plan p ≡ p
    exec_stopped idle p x h = refl
    exec_stopped (act f) p x h = go (f p.state)
      where
        go : (v : Option Event) → try_some limit v p ≡ p
        go None = refl
        go (Some e) = ap (λ v. cond (is_some v) p (cond (is_full limit p.events) (record p { stop = Some Limit }) (after_refusal (refusal rules s e p.state) e (change rules s e p.state) p))) h
    exec_stopped (look f) p x h = exec_stopped (f p.state) p x h
    exec_stopped (both a b) p x h = ap (exec limit b) (exec_stopped a p x h) ∙ exec_stopped b p x h
    exec_stopped begins p x h = ap (λ b. record p { rounds = cond b p.rounds (counted p.rounds) }) (ap (λ v. is_some v || is_empty (due_refs now p.state)) h)
