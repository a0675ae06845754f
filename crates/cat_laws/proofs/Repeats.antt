-- A mutation that comes again changes nothing.
use Rattle.std.proofs.Common.{◌≡◌, ℕ, ◌≤◌, Bool, true, false, cond, ◌||◌, List, [], ◌∷◌, ◌++◌, refl, sym, ap, subst, ◌∙◌, is_some, nat_lt, le_refl, true≢false, arith}
use Rattle.std.specs.declared.option.Option.{Option}
use Rattle.std.specs.declared.option.Option.TheVariants.{None, Some}
use Rattle.std.proofs.lemmas.Bool.Decides.{nat_tests}
use Rattle.cat_collections.specs.Table.{Text, same_text, text_cmp, get, put}
use Rattle.cat_collections.proofs.Tables.{text_total, text_antisymmetric, same_is, find-put_same, find-put_other}
use Rattle.cat_model.specs.declared.types.State.{State}
use Rattle.cat_model.specs.declared.types.Record.{Record}
use Rattle.cat_model.specs.declared.types.Settings.{Settings}
use Rattle.cat_model.specs.declared.types.Given.{Given}
use Rattle.cat_model.specs.declared.types.Order.{Order}
use Rattle.cat_model.specs.declared.types.ProviderInputs.{ProviderInputs}
use Rattle.cat_model.specs.declared.types.Leaving.TheVariants.{Deleted}
use Rattle.cat_model.specs.Catalogue.{Ref, Rules, frame}
use Rattle.cat_model.specs.Step.{source_at, last_serial, items_after, mutated_state, refresh, take, take_next, next_taken, forget, forget_at, ref_at, finish, is_present, is_present_stitch, Event, change, refusal, step, run}
use Rattle.cat_model.specs.Step.Event.{Mutate, ShelfPut, ShelfDrop, Refresh, Forget, ForgetNumber, Take, TakeAt, Finish, PutStitch}
use Rattle.cat_laws.proofs.Cut.{step_acts, run-append}

at_cond : {A : Type 0} (P : A → Type 0) (b : Bool) (x y : A) → (b ≡ true → P x) → P y → P (cond b x y)
at_cond P true x y p q = p refl
at_cond P false x y p q = q

not_above : (k l : ℕ) → k ≤ l → nat_lt l k ≡ false
not_above k l le = grind (arith, nat_tests)

is_above : (k l : ℕ) → nat_lt l k ≡ true → l ≤ k
is_above k l h = grind (arith, nat_tests)

is_not_above : (k l : ℕ) → nat_lt l k ≡ false → k ≤ l
is_not_above k l h = grind (arith, nat_tests)

module _ (rules : Rules) (s : Settings) where
  -- a mutation that isn't above the last one changes nothing
  pub old_mutation : (m : State) (p : Text) (x : Given) → x.serial ≤ last_serial m p → step rules s (Mutate p x) m ≡ m
  unfolding step
  old_mutation m p x le = ap (cond (is_some (refusal rules s (Mutate p x) m)) m) same ∙ both (is_some (refusal rules s (Mutate p x) m))
    where
      skips : (b : Bool) (n : State) → b ≡ false → cond b n m ≡ m
      skips true n h = absurd (true≢false h)
      skips false n h = refl

      same : change rules s (Mutate p x) m ≡ m
      same = skips (nat_lt (last_serial m p) x.serial) (frame rules Deleted m (mutated_state p x (source_at (get m.providers p)) m)) (not_above x.serial (last_serial m p) le)

      both : (b : Bool) → cond b m m ≡ m
      both true = refl
      both false = refl

  -- serials don't fall
  module _ (q : Text) where
    abbrev Above : State → State → Type 0
    Above m n = last_serial m q ≤ last_serial n q

    take_above : (r : Ref) (now : ℕ) (m : State) (v : Option Record) → Above m (take s r now m v)
    take_above r now m None = le_refl _
    take_above r now m (Some x) = le_refl _

    take_next_above : (now : ℕ) (m : State) (v : Option Ref) → Above m (take_next s now m v)
    take_next_above now m None = le_refl _
    take_next_above now m (Some r) = take_above r now m (get m.records r)

    refresh_above : (r : Ref) (m : State) (v : Option Record) → Above m (refresh r m v)
    refresh_above r m None = le_refl _
    refresh_above r m (Some x) = le_refl _

    forget_above : (r : Ref) (m : State) → Above m (forget rules r m)
    forget_above r m = at_cond (Above m) (is_some (get m.records r) || is_some (get m.orphans r)) _ m (λ is. le_refl _) (le_refl _)

    forget_at_above : (m : State) (v : Option Ref) → Above m (forget_at rules m v)
    forget_at_above m None = le_refl _
    forget_at_above m (Some r) = forget_above r m

    finish_above : (order : Order) (now : ℕ) (m : State) (v : Option Record) → Above m (finish rules s order now m v)
    finish_above order now m None = le_refl _
    finish_above order now m (Some x) = at_cond (Above m) (is_present rules m order x) _ m (λ is. le_refl _) (le_refl _)

    put_above : (p : Text) (x : ProviderInputs) (m : State) → last_serial m p ≤ x.serial → last_serial m q ≤ (source_at (get (put text_cmp p x m.providers) q)).serial
    put_above p x m le = go (same_text q p) refl
      where
        go : (b : Bool) → same_text q p ≡ b → last_serial m q ≤ (source_at (get (put text_cmp p x m.providers) q)).serial
        go true is =
            let same : q ≡ p = same_is text_total text_antisymmetric q p is in
            subst (λ r. last_serial m r ≤ (source_at (get (put text_cmp p x m.providers) r)).serial) (sym same)
            (subst (λ v. last_serial m p ≤ (source_at v).serial) (sym (find-put_same text_total text_antisymmetric p x m.providers)) le)
        go false is = subst (λ v. last_serial m q ≤ (source_at v).serial) (sym (find-put_other text_total text_antisymmetric q p x m.providers is)) (le_refl _)

    mutate_above : (p : Text) (x : Given) (m : State) → Above m (change rules s (Mutate p x) m)
    mutate_above p x m = at_cond (Above m) (nat_lt (last_serial m p) x.serial) _ m
        (λ is. put_above p (record { serial = x.serial; items = items_after x (source_at (get m.providers p)).items }) m (is_above x.serial (last_serial m p) is)) (le_refl _)

    change_above : (e : Event) (m : State) → Above m (change rules s e m)
    change_above (Mutate p x) m = mutate_above p x m
    change_above (ShelfPut name text) m = le_refl _
    change_above (ShelfDrop name) m = at_cond (Above m) (is_some (get m.shelf name)) _ m (λ is. le_refl _) (le_refl _)
    change_above (Refresh r) m = refresh_above r m (get m.records r)
    change_above (Forget r) m = forget_above r m
    change_above (ForgetNumber number) m = forget_at_above m (ref_at m number)
    change_above (Take now) m = take_next_above now m (next_taken now m)
    change_above (TakeAt r now) m = take_above r now m (get m.records r)
    change_above (Finish order now) m = finish_above order now m (get m.records order.reference)
    change_above (PutStitch order) m = at_cond (Above m) (is_present_stitch rules m order) _ m (λ is. le_refl _) (le_refl _)

    step_above : (e : Event) (m : State) → Above m (step rules s e m)
    unfolding step
    step_above e m = at_cond (Above m) (is_some (refusal rules s e m)) m (change rules s e m) (λ is. le_refl _) (change_above e m)

    pub run_above : (es : List Event) (m : State) → Above m (run rules s es m)
    run_above [] m = le_refl _
    run_above (e ∷ es) m =
        let a = step_above e m in
        let b = run_above es (step rules s e m) in
        omega arith

  -- after a mutation that isn't refused its serial is old
  acted_old : (m : State) (p : Text) (x : Given) → refusal rules s (Mutate p x) m ≡ None → x.serial ≤ last_serial (step rules s (Mutate p x) m) p
  acted_old m p x h = subst (λ n. x.serial ≤ last_serial n p) (sym (step_acts rules s (Mutate p x) m h)) (go (nat_lt (last_serial m p) x.serial) refl)
    where
      new : ProviderInputs
      new = record { serial = x.serial; items = items_after x (source_at (get m.providers p)).items }

      go : (b : Bool) → nat_lt (last_serial m p) x.serial ≡ b → x.serial ≤ last_serial (change rules s (Mutate p x) m) p
      go b is = test b is
        where
          put_is : x.serial ≤ (source_at (get (put text_cmp p (record { serial = x.serial; items = items_after x (source_at (get m.providers p)).items }) m.providers) p)).serial
          put_is = subst (λ v. x.serial ≤ (source_at v).serial) (sym (find-put_same text_total text_antisymmetric p (record { serial = x.serial; items = items_after x (source_at (get m.providers p)).items }) m.providers)) (le_refl _)

          at : (b : Bool) (n : State) → (b ≡ true → x.serial ≤ last_serial n p) → (b ≡ false → x.serial ≤ last_serial m p) → x.serial ≤ last_serial (cond b n m) p
          at true n f g = f refl
          at false n f g = g refl

          test : (b : Bool) → nat_lt (last_serial m p) x.serial ≡ b → x.serial ≤ last_serial (change rules s (Mutate p x) m) p
          test b is = at (nat_lt (last_serial m p) x.serial) _ (λ _. put_is) (λ no. is_not_above x.serial (last_serial m p) no)

  pub again : (m : State) (p : Text) (x : Given) (es fs : List Event) → refusal rules s (Mutate p x) m ≡ None
      → run rules s (es ++ Mutate p x ∷ fs) (step rules s (Mutate p x) m) ≡ run rules s (es ++ fs) (step rules s (Mutate p x) m)
  again m p x es fs h =
      let n = step rules s (Mutate p x) m in
      let a = acted_old m p x h in
      let b = run_above p es n in
      run-append rules s es (Mutate p x ∷ fs) n ∙ ap (run rules s fs) (old_mutation (run rules s es n) p x (omega arith)) ∙ sym (run-append rules s es fs n)
