-- A settle that isn't stopped is one whose events all stand.
use Rattle.std.proofs.Common.{◌≡◌, ℕ, zero, suc, ◌≤◌, Bool, true, false, cond, List, [], ◌∷◌, refl, sym, ap, subst, ◌∙◌, is_some, true≢false}
use Rattle.std.specs.declared.option.Option.{Option}
use Rattle.std.specs.declared.option.Option.TheVariants.{None, Some}
use Rattle.cat_collections.specs.Table.{get}
use Rattle.cat_model.specs.Catalogue.{Ref, Rules}
use Rattle.cat_model.specs.declared.types.State.{State}
use Rattle.cat_model.specs.Sound.{Sound, Quiet}
use Rattle.cat_model.specs.Step.{Event, refusal, change}
use Rattle.cat_model.specs.declared.types.Settings.{Settings}
use Rattle.cat_model.specs.declared.types.Order.{Order}
use Rattle.cat_model.specs.declared.types.StitchOrder.{StitchOrder}
use Rattle.cat_model.specs.declared.types.Fault.{Fault}
use Rattle.cat_model.specs.declared.types.Stop.TheVariants.{Limit}
use Rattle.cat_model.specs.Step.Event.{TakeAt, Finish, PutStitch}
use Rattle.cat_model.specs.Settle.{is_due, order, due_refs, by_ticket, width, after_refusal, is_full, try_event, try_finish, try_take_and_finish, try_turn, try_turns, begun_round, try_round, try_rounds, try_stitch_with, mark_order, try_stitches, not_begun, try_settle}
use Rattle.cat_laws.proofs.Rounds.{finish_order, take_and_finish, turn, turns, rounds, stitch_with, stitches, settle}
use Rattle.cat_model.specs.declared.types.Progress.{Progress}
use Rattle.cat_model.specs.declared.types.Stop.{Stop}
use Rattle.cat_laws.proofs.Settled.{settle_quiet}

module _ (rules : Rules) (s : Settings) (limit : Option ℕ) where
  abbrev limited : Progress → Progress
  limited p = record p { stop = Some Limit }

  -- q follows p by what leads to the state n, if nothing stopped it
  pub record Follows (p q : Progress) (n : State) : Type 0 where
    pub before : p.stop ≡ None
    pub state : q.state ≡ n

  tried : (e : Event) (p : Progress) → (try_event rules s limit e p).stop ≡ None → Follows p (try_event rules s limit e p) (change rules s e p.state)
  tried e p h = go p.stop refl h
    where
      inner : p.stop ≡ None → (v : Option Fault) → (after_refusal v e (change rules s e p.state) p).stop ≡ None → Follows p (after_refusal v e (change rules s e p.state) p) (change rules s e p.state)
      inner f None h = record { before = f; state = refl }
      inner f (Some x) h = absurd (true≢false (ap is_some h))

      outer : p.stop ≡ None → (b : Bool) → (cond b (limited p) (after_refusal (refusal rules s e p.state) e (change rules s e p.state) p)).stop ≡ None
          → Follows p (cond b (limited p) (after_refusal (refusal rules s e p.state) e (change rules s e p.state) p)) (change rules s e p.state)
      outer f true h = absurd (true≢false (ap is_some h))
      outer f false h = inner f (refusal rules s e p.state) h

      go : (v : Option Stop) → p.stop ≡ v → (cond (is_some v) p (cond (is_full limit p.events) (limited p) (after_refusal (refusal rules s e p.state) e (change rules s e p.state) p))).stop ≡ None
          → Follows p (cond (is_some v) p (cond (is_full limit p.events) (limited p) (after_refusal (refusal rules s e p.state) e (change rules s e p.state) p))) (change rules s e p.state)
      go None f h = outer f (is_full limit p.events) h
      go (Some x) f h = absurd (true≢false (ap is_some (sym f ∙ h)))

  module _ (now : ℕ) where
    tried_finish : (v : Option Order) (p : Progress) → (try_finish rules s now limit v p).stop ≡ None → Follows p (try_finish rules s now limit v p) (finish_order rules s now v p.state)
    tried_finish None p h = record { before = h; state = refl }
    tried_finish (Some x) p h = tried (Finish x now) p h

    tried_turn : (r : Ref) (p : Progress) → (try_turn rules s now limit r p).stop ≡ None → Follows p (try_turn rules s now limit r p) (turn rules s now r p.state)
    tried_turn r p h = go (is_due now (get p.state.records r)) h
      where
        go : (b : Bool) → (cond b (try_take_and_finish rules s now limit r p) p).stop ≡ None → Follows p (cond b (try_take_and_finish rules s now limit r p) p) (cond b (take_and_finish rules s now r p.state) p.state)
        go true h =
            let b = tried_finish (order rules (try_event rules s limit (TakeAt r now) p).state r) (try_event rules s limit (TakeAt r now) p) h in
            let a = tried (TakeAt r now) p b.before in
            record { before = a.before; state = b.state ∙ ap (λ m. finish_order rules s now (order rules m r) m) a.state }
        go false h = record { before = h; state = refl }

    pub tried_turns : (rs : List Ref) (p : Progress) → (try_turns rules s now limit rs p).stop ≡ None → Follows p (try_turns rules s now limit rs p) (turns rules s now rs p.state)
    tried_turns [] p h = record { before = h; state = refl }
    tried_turns (r ∷ rs) p h =
        let b = tried_turns rs (try_turn rules s now limit r p) h in
        let a = tried_turn r p b.before in
        record { before = a.before; state = b.state ∙ ap (turns rules s now rs) a.state }

    pub tried_rounds : (n : ℕ) (p : Progress) → (try_rounds rules s now limit n p).stop ≡ None → Follows p (try_rounds rules s now limit n p) (rounds rules s now n p.state)
    tried_rounds zero p h = record { before = h; state = refl }
    tried_rounds (suc n) p h =
        let b = tried_rounds n (try_round rules s now limit p) h in
        let a = tried_turns (due_refs now p.state) (begun_round now p) b.before in
        record { before = a.before; state = b.state ∙ ap (rounds rules s now n) a.state }

  tried_stitch : (v : Option StitchOrder) (p : Progress) → (try_stitch_with rules s limit v p).stop ≡ None → Follows p (try_stitch_with rules s limit v p) (stitch_with rules s v p.state)
  tried_stitch None p h = record { before = h; state = refl }
  tried_stitch (Some x) p h = tried (PutStitch x) p h

  tried_stitches : (rs : List Ref) (p : Progress) → (try_stitches rules s limit rs p).stop ≡ None → Follows p (try_stitches rules s limit rs p) (stitches rules s rs p.state)
  tried_stitches [] p h = record { before = h; state = refl }
  tried_stitches (r ∷ rs) p h =
      let x = mark_order rules p.state r in
      let b = tried_stitches rs (try_stitch_with rules s limit x p) h in
      let a = tried_stitch x p b.before in
      record { before = a.before; state = b.state ∙ ap (stitches rules s rs) a.state }

  pub tried_settle : (now : ℕ) (m : State) → (try_settle rules s now limit m).stop ≡ None → (try_settle rules s now limit m).state ≡ settle rules s now (width rules m) m
  unfolding try_settle
  tried_settle now m h =
      let p = try_rounds rules s now limit (width rules m) (not_begun m) in
      let b = tried_stitches (by_ticket p.state.marks) p h in
      let a = tried_rounds now (width rules m) (not_begun m) b.before in
      b.state ∙ ap (λ n. stitches rules s (by_ticket n.marks) n) a.state

  -- a settle that isn't stopped leaves the catalogue quiet
  pub unstopped_quiet : (now : ℕ) → 1 ≤ s.interval → (m : State) → Sound rules m → (try_settle rules s now limit m).stop ≡ None → Quiet (try_settle rules s now limit m).state now
  unstopped_quiet now later m sound h = subst (λ n. Quiet n now) (sym (tried_settle now m h)) (settle_quiet rules s now later m sound)
