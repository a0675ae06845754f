-- The references of the moments up to the present one are those of the records that are due.
use Rattle.std.proofs.Common.{T, ◌≡◌, ℕ, ◌<◌, ◌≤◌, ◌⊎◌, inl, inr, arith, Bool, true, false, cond, ◌&&◌, ◌||◌, nat_le, nat_lt, nat_eq, List, [], ◌∷◌, length, refl, sym, ap, subst, ◌∙◌, true≢false, is_some}
use Rattle.std.proofs.lemmas.Bool.Decides.{nat_tests}
use Rattle.std.proofs.lemmas.List.Kept.{IsStrictlySortedBy-filter}
use Rattle.std.specs.Prelude.{slice_get}
use Rattle.std.specs.declared.option.Option.{Option}
use Rattle.std.specs.declared.option.Option.TheVariants.{None, Some}
use Rattle.std.specs.List.{list_any}
use Rattle.std.specs.Ordering.{eq_by_cmp, is_gt}
use Rattle.std.specs.Cmp.{nat_cmp_total}
use Rattle.std.specs.FinMap.{nat_cmp-IsAntisymmetric}
use Rattle.std.specs.FinMap.Entries.{is_some-find, is_sorted}
use Rattle.cat_collections.specs.Order.{in_order}
use Rattle.cat_collections.specs.Table.{Map, Text, find, get, keys, text_cmp}
use Rattle.cat_collections.proofs.Orders.{has-filter, in_order_is, keys_rise}
use Rattle.cat_collections.proofs.Tables.{and_second, or_true, same_is, same_self, text_antisymmetric, text_total}
use Rattle.cat_state_parts.proofs.Least.{le_from, le_not, not_higher, same_some}
use Rattle.cat_model.specs.Dues.{AreMoments, Moments, due_of, is_at, is_due, moment_cmp, refs_due, refs_until}
use Rattle.cat_model.specs.declared.types.Record.{Record}
use Rattle.cat_model.proofs.Dues.{listed}
use Rattle.cat_model.proofs.Soonest.{above, also, at_hand, lt_yes}

to_T : (b : Bool) → b ≡ true → T b
to_T true h = tt
to_T false h = absurd (true≢false (sym h))

not_lt : (x y : ℕ) → nat_lt x y ≡ false → y ≤ x
not_lt x y h = grind (arith, nat_tests)

module _ (now : ℕ) (es : Map Record) where
  -- a moment up to the present one is passed, and its reference with it
  passed : (ds : Moments) (u : ℕ) (q : Text) → is_sorted moment_cmp ds ≡ true → is_some (find moment_cmp (u, q) ds) ≡ true → u ≤ now → list_any (eq_by_cmp text_cmp q) (refs_until now ds) ≡ true
  passed [] u q h f l = absurd (true≢false (sym f))
  passed (d ∷ ds) u q h f l = go (nat_lt now d.0.0) refl (above now es d ds u q h f) (λ g. passed ds u q (and_second _ _ h) g l)
    where
      go : (b : Bool) → nat_lt now d.0.0 ≡ b → (((u, q) ≡ d.0) ⊎ (is_some (find moment_cmp (u, q) ds) ≡ true)) × (is_gt (moment_cmp d.0 (u, q)) ≡ false)
          → (is_some (find moment_cmp (u, q) ds) ≡ true → list_any (eq_by_cmp text_cmp q) (refs_until now ds) ≡ true)
          → list_any (eq_by_cmp text_cmp q) (cond b [] (d.0.1 ∷ refs_until now ds)) ≡ true
      go true n a ih =
          let low : d.0.0 ≤ u = not_higher d.0.0 u d.0.1 q a.1 in
          let later : now < d.0.0 = lt_yes now d.0.0 n in
          absurd (omega arith)
      go false n (inl is, a) ih = ap (λ b. b || list_any (eq_by_cmp text_cmp q) (refs_until now ds)) (ap (λ (w : ℕ × Text). eq_by_cmp text_cmp q w.1) (sym is) ∙ same_self text_total text_antisymmetric q)
      go false n (inr g, a) ih = or_true (eq_by_cmp text_cmp q d.0.1) (list_any (eq_by_cmp text_cmp q) (refs_until now ds)) (ih g)

  -- a reference that is passed has a moment up to the present one
  abbrev IsPassed : Moments → Text → Type 0
  IsPassed ds q = (u : ℕ) × ((u ≤ now) × (is_some (find moment_cmp (u, q) ds) ≡ true))

  was_passed : (ds : Moments) (q : Text) → list_any (eq_by_cmp text_cmp q) (refs_until now ds) ≡ true → IsPassed ds q
  was_passed [] q h = absurd (true≢false (sym h))
  was_passed (d ∷ ds) q h = go (nat_lt now d.0.0) refl h (was_passed ds q)
    where
      pick : (c : Bool) → eq_by_cmp text_cmp q d.0.1 ≡ c → nat_lt now d.0.0 ≡ false → (c || list_any (eq_by_cmp text_cmp q) (refs_until now ds)) ≡ true
          → (list_any (eq_by_cmp text_cmp q) (refs_until now ds) ≡ true → IsPassed ds q) → IsPassed (d ∷ ds) q
      pick true e n h ih =
          let is : q ≡ d.0.1 = same_is text_total text_antisymmetric q d.0.1 e in
          (d.0.0, (not_lt now d.0.0 n, subst (λ (r : Text). is_some (find moment_cmp (d.0.0, r) (d ∷ ds)) ≡ true) (sym is) (at_hand now es d ds)))
      pick false e n h ih =
          let rest = ih h in
          (rest.0, (rest.1.0, also now es d ds rest.0 q rest.1.1))

      go : (b : Bool) → nat_lt now d.0.0 ≡ b → list_any (eq_by_cmp text_cmp q) (cond b [] (d.0.1 ∷ refs_until now ds)) ≡ true
          → (list_any (eq_by_cmp text_cmp q) (refs_until now ds) ≡ true → IsPassed ds q) → IsPassed (d ∷ ds) q
      go true n h ih = absurd (true≢false (sym h))
      go false n h ih = pick (eq_by_cmp text_cmp q d.0.1) refl n h ih

  module _ (ds : Moments) (rise : is_sorted text_cmp es ≡ true) (up : is_sorted moment_cmp ds ≡ true) (i : AreMoments due_of es ds) where
    -- a reference is passed exactly where its record is due
    same_ref : (q : Text) → list_any (eq_by_cmp text_cmp q) (refs_due now es) ≡ list_any (eq_by_cmp text_cmp q) (refs_until now ds)
    same_ref q =
        has-filter text_total text_antisymmetric (λ r. is_due now (get es r)) q (keys es)
        ∙ (ap (λ b. is_due now (get es q) && b) (sym (is_some-find text_cmp q es)) ∙ go (get es q) refl)
      where
        none : (b : Bool) → list_any (eq_by_cmp text_cmp q) (refs_until now ds) ≡ b → (v : Option Record) → get es q ≡ v → ((u : ℕ) → u ≤ now → is_at due_of u v ≡ true → b ≡ false) → b ≡ false
        none true e v g fails = let p = was_passed ds q e in fails p.0 p.1.0 (ap (is_at due_of p.0) (sym g) ∙ (sym (i.same p.0 q) ∙ p.1.1))
        none false e v g fails = refl

        some : (x : Record) → get es q ≡ Some x → (b : Bool) → nat_le x.due now ≡ b → (b && true) ≡ list_any (eq_by_cmp text_cmp q) (refs_until now ds)
        some x g true l = sym (passed ds x.due q up (listed due_of es ds rise up i q x g) (le_from x.due now l))
        some x g false l =
            sym (none (list_any (eq_by_cmp text_cmp q) (refs_until now ds)) refl (Some x) g
            (λ u m e.
            let is : u ≡ x.due = same_is nat_cmp_total nat_cmp-IsAntisymmetric u x.due e in
            let late : now < x.due = le_not x.due now l in
            absurd (omega arith)))

        go : (v : Option Record) → get es q ≡ v → (is_due now v && is_some v) ≡ list_any (eq_by_cmp text_cmp q) (refs_until now ds)
        go None g = sym (none (list_any (eq_by_cmp text_cmp q) (refs_until now ds)) refl None g (λ u m e. absurd (true≢false (sym e))))
        go (Some x) g = some x g (nat_le x.due now) refl

    pub due_is : in_order text_cmp (refs_until now ds) ≡ refs_due now es
    due_is =
        sym (in_order_is text_total text_antisymmetric (refs_until now ds) (refs_due now es)
        (IsStrictlySortedBy-filter text_cmp (λ r. is_due now (get es r)) (keys es) (keys_rise text_total text_antisymmetric es (to_T _ rise)))
        same_ref)

    -- none is passed where none is due
    abbrev none_in : List Text → Bool
    none_in l = nat_eq (length l) 0

    some_in : (x : Text) (xs : List Text) → none_in (x ∷ xs) ≡ false
    some_in x xs = grind (arith, nat_tests)

    pub none_is : none_in (refs_until now ds) ≡ none_in (refs_due now es)
    none_is = go (refs_until now ds) refl (refs_due now es) refl
      where
        go : (l : List Text) → refs_until now ds ≡ l → (m : List Text) → refs_due now es ≡ m → none_in l ≡ none_in m
        go [] a [] b = refl
        go [] a (y ∷ m) b =
            absurd (true≢false
            (sym (ap (λ c. c || list_any (eq_by_cmp text_cmp y) m) (same_self text_total text_antisymmetric y))
            ∙ (ap (list_any (eq_by_cmp text_cmp y)) (sym b) ∙ (same_ref y ∙ ap (list_any (eq_by_cmp text_cmp y)) a))))
        go (x ∷ l) a [] b =
            absurd (true≢false
            (sym (ap (λ c. c || list_any (eq_by_cmp text_cmp x) l) (same_self text_total text_antisymmetric x))
            ∙ (ap (list_any (eq_by_cmp text_cmp x)) (sym a) ∙ (sym (same_ref x) ∙ ap (list_any (eq_by_cmp text_cmp x)) b))))
        go (x ∷ l) a (y ∷ m) b = some_in x l ∙ sym (some_in y m)

-- ---- the first of the moments

pub first_of_none : (now : ℕ) (ds : Moments) → None ≡ slice_get ds 0 → true ≡ nat_eq (length (refs_until now ds)) 0
first_of_none now [] e = refl
first_of_none now (d ∷ ds) e = absurd (true≢false (sym (ap is_some e)))

pub first_of_some : (now : ℕ) (ds : Moments) (d : (ℕ × Text) × Unit {0}) → Some d ≡ slice_get ds 0 → nat_lt now d.0.0 ≡ nat_eq (length (refs_until now ds)) 0
first_of_some now [] d e = absurd (true≢false (ap is_some e))
first_of_some now (x ∷ ds) d e = ap (λ (y : (ℕ × Text) × Unit {0}). nat_lt now y.0.0) (same_some d x e) ∙ go (nat_lt now x.0.0)
  where
    some_left : (y : Text) (ys : List Text) → nat_eq (length (y ∷ ys)) 0 ≡ false
    some_left y ys = grind (arith, nat_tests)

    go : (b : Bool) → b ≡ nat_eq (length (cond {A = List Text} b [] (x.0.1 ∷ refs_until now ds))) 0
    go true = refl
    go false = sym (some_left x.0.1 (refs_until now ds))
