-- Which events of a settle stand.
use Rattle.std.proofs.Common.{◌≡◌, ◌⊎◌, inl, inr, ⊎_elim, ℕ, zero, suc, ◌+◌, ◌<◌, Bool, true, false, cond, List, [], ◌∷◌, refl, sym, subst, true≢false, arith}
use Rattle.std.specs.declared.option.Option.{Option}
use Rattle.std.specs.declared.option.Option.TheVariants.{None, Some}
use Rattle.cat_laws.proofs.Plan.{Plan, Tries, at_event, exec, exec_settle, exec_stopped, settle_plan, try_some}
use Rattle.cat_laws.proofs.Plan.Plan.{idle, act, look, both, begins}
use Rattle.cat_laws.proofs.Plan.Tries.{stopped, full, refused, acts}
use Rattle.cat_model.specs.Catalogue.{Ref, Rules}
use Rattle.cat_model.specs.Settle.{begun_round, by_ticket, due_refs, is_due, mark_order, not_begun, order, try_event, try_finish, try_round, try_rounds, try_settle, try_stitch_with, try_stitches, try_take_and_finish, try_turn, try_turns, width}
use Rattle.cat_model.specs.Step.{Event}
use Rattle.cat_model.specs.Step.Event.{TakeAt, Finish, PutStitch}
use Rattle.cat_model.specs.declared.types.Order.{Order}
use Rattle.cat_model.specs.declared.types.Progress.{Progress}
use Rattle.cat_model.specs.declared.types.Settings.{Settings}
use Rattle.cat_model.specs.declared.types.State.{State}
use Rattle.cat_model.specs.declared.types.StitchOrder.{StitchOrder}
use Rattle.cat_model.specs.declared.types.Stop.{Stop}
use Rattle.cat_model.specs.declared.types.Stop.TheVariants.{Refused, Limit}
use Rattle.cat_collections.specs.Table.{get}

module _ (rules : Rules) (s : Settings) (now : ℕ) where
  -- ---- a settle without a limit isn't stopped by one

  -- a progress wasn't stopped by a limit
  abbrev pub IsUnlimited : Progress → Type 0
  IsUnlimited p = p.stop ≡ Some Limit → ⊥

  unlimited_after : (e : Event) (p q : Progress) → IsUnlimited p → Tries rules s now None e p q → IsUnlimited q
  unlimited_after e p q h (stopped x f) = h
  unlimited_after e p q h (full f g) = absurd (true≢false (sym g))
  unlimited_after e p q h (refused x f g i) = λ l. absurd (cc)
  unlimited_after e p q h (acts f g i) = h

  unlimited_try : (v : Option Event) (p : Progress) → IsUnlimited p → IsUnlimited (try_some rules s now None v p)
  unlimited_try None p h = h
  unlimited_try (Some e) p h = unlimited_after e p (try_event rules s None e p) h (at_event rules s now None e p)

  unlimited : (plan : Plan) (p : Progress) → IsUnlimited p → IsUnlimited (exec rules s now None plan p)
  unlimited idle p h = h
  unlimited (act f) p h = unlimited_try (f p.state) p h
  unlimited (look f) p h = unlimited (f p.state) p h
  unlimited (both a b) p h = unlimited b (exec rules s now None a p) (unlimited a p h)
  unlimited begins p h = h

  pub settle_unlimited : (m : State) → IsUnlimited (try_settle rules s now None m)
  settle_unlimited m = subst IsUnlimited (exec_settle rules s now None m) (unlimited (settle_plan rules s now (width rules m)) (not_begun m) (λ l. absurd (cc)))

  -- ---- where the state changed, some event stands and a lease or a stitch is counted

  module _ (limit : Option ℕ) (m : State) where
    -- nothing has happened to the state m, or some event stands and a lease or a stitch is counted
    abbrev pub IsCounted : Progress → Type 0
    IsCounted p = (p.state ≡ m) ⊎ ((0 < p.events) × (0 < p.leases + p.stitched))

    finish_stopped : (v : Option Order) (p : Progress) (x : Stop) → p.stop ≡ Some x → try_finish rules s now limit v p ≡ p
    finish_stopped None p x f = refl
    finish_stopped (Some o) p x f = exec_stopped rules s now limit (act (λ n. Some (Finish o now))) p x f

    finish_counted : (o : Order) (p q : Progress) → (0 < p.events) × (0 < p.leases + p.stitched) → Tries rules s now limit (Finish o now) p q → (0 < q.events) × (0 < q.leases + q.stitched)
    finish_counted o p q h (stopped x f) = h
    finish_counted o p q h (full f g) = h
    finish_counted o p q h (refused x f g i) = h
    finish_counted o p q h (acts f g i) = (omega arith, h.1)

    finish_on : (v : Option Order) (p : Progress) → (0 < p.events) × (0 < p.leases + p.stitched) → IsCounted (try_finish rules s now limit v p)
    finish_on None p h = inr h
    finish_on (Some o) p h = inr (finish_counted o p (try_event rules s limit (Finish o now) p) h (at_event rules s now limit (Finish o now) p))

    turn_counted : (r : Ref) (p : Progress) → IsCounted p → IsCounted (try_turn rules s now limit r p)
    turn_counted r p h = go (is_due now (get p.state.records r))
      where
        stays : (q : Progress) (x : Stop) → q.stop ≡ Some x → IsCounted q → IsCounted (try_finish rules s now limit (order rules q.state r) q)
        stays q x f k = subst IsCounted (sym (finish_stopped (order rules q.state r) q x f)) k

        at : (q : Progress) → Tries rules s now limit (TakeAt r now) p q → IsCounted (try_finish rules s now limit (order rules q.state r) q)
        at q (stopped x f) = stays p x f h
        at q (full f g) = stays q Limit refl h
        at q (refused x f g i) = stays q (Refused x) refl h
        at q (acts f g i) = finish_on (order rules q.state r) q (omega arith, omega arith)

        go : (b : Bool) → IsCounted (cond b (try_take_and_finish rules s now limit r p) p)
        go true = at (try_event rules s limit (TakeAt r now) p) (at_event rules s now limit (TakeAt r now) p)
        go false = h

    turns_counted : (rs : List Ref) (p : Progress) → IsCounted p → IsCounted (try_turns rules s now limit rs p)
    turns_counted [] p h = h
    turns_counted (r ∷ rs) p h = turns_counted rs (try_turn rules s now limit r p) (turn_counted r p h)

    rounds_counted : (n : ℕ) (p : Progress) → IsCounted p → IsCounted (try_rounds rules s now limit n p)
    rounds_counted zero p h = h
    rounds_counted (suc n) p h = rounds_counted n (try_round rules s now limit p) (turns_counted (due_refs now p.state) (begun_round now p) h)

    stitch_after : (x : StitchOrder) (p q : Progress) → IsCounted p → Tries rules s now limit (PutStitch x) p q → IsCounted q
    stitch_after x p q h (stopped y f) = h
    stitch_after x p q h (full f g) = h
    stitch_after x p q h (refused y f g i) = h
    stitch_after x p q h (acts f g i) = inr (omega arith, omega arith)

    stitch_counted : (v : Option StitchOrder) (p : Progress) → IsCounted p → IsCounted (try_stitch_with rules s limit v p)
    stitch_counted None p h = h
    stitch_counted (Some x) p h = stitch_after x p (try_event rules s limit (PutStitch x) p) h (at_event rules s now limit (PutStitch x) p)

    stitches_counted : (rs : List Ref) (p : Progress) → IsCounted p → IsCounted (try_stitches rules s limit rs p)
    stitches_counted [] p h = h
    stitches_counted (r ∷ rs) p h = stitches_counted rs (try_stitch_with rules s limit (mark_order rules p.state r) p) (stitch_counted (mark_order rules p.state r) p h)

    pub settle_counted : IsCounted (try_settle rules s now limit m)
    unfolding try_settle
    settle_counted =
        let p = try_rounds rules s now limit (width rules m) (not_begun m) in
        stitches_counted (by_ticket p.state.marks) p (rounds_counted (width rules m) (not_begun m) (inl refl))

    -- where no event stands, the state stays
    pub none_stands : (try_settle rules s now limit m).events ≡ 0 → (try_settle rules s now limit m).state ≡ m
    none_stands h = ⊎_elim {C = (try_settle rules s now limit m).state ≡ m} (λ same. same) (λ more. let k = more.0 in absurd (omega arith)) settle_counted

    -- where neither a lease nor a stitch is counted, the state stays
    pub none_counted : (try_settle rules s now limit m).leases ≡ 0 → (try_settle rules s now limit m).stitched ≡ 0 → (try_settle rules s now limit m).state ≡ m
    none_counted h k = ⊎_elim {C = (try_settle rules s now limit m).state ≡ m} (λ same. same) (λ more. let l = more.1 in absurd (omega arith)) settle_counted
