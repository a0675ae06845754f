-- How many moments stand up to the present one is how many records have such a moment.
use Rattle.std.proofs.Common.{◌≡◌, ℕ, suc, ◌+◌, ◌-◌, ◌<◌, ◌≤◌, ◌⊎◌, inl, inr, arith, Bool, true, false, cond, not, nat_le, nat_lt, List, [], ◌∷◌, length, refl, sym, ap, subst, ◌∙◌, true≢false, Ordering, is_some}
use Rattle.std.proofs.lemmas.Bool.Decides.{nat_tests}
use Rattle.std.proofs.lemmas.List.Filters.{length-filter_both}
use Rattle.std.specs.declared.option.Option.{Option}
use Rattle.std.specs.declared.option.Option.TheVariants.{None, Some}
use Rattle.std.specs.List.{filter}
use Rattle.std.specs.Ordering.{eq_by_cmp, is_eq, is_gt}
use Rattle.std.specs.Cmp.{IsTotalOrder}
use Rattle.std.specs.FinMap.{IsAntisymmetric}
use Rattle.std.specs.FinMap.Entries.{is_sorted}
use Rattle.cat_collections.specs.Places.{before}
use Rattle.cat_collections.specs.Rows.{without}
use Rattle.cat_collections.specs.Table.{Map, Text, find, get, text_cmp}
use Rattle.cat_collections.proofs.Tables.{and_first, and_second, same_is, same_self, text_antisymmetric, text_total}
use Rattle.cat_state_parts.proofs.Indexed.{ticket_antisymmetric, ticket_total}
use Rattle.cat_state_parts.proofs.Least.{below_found, equally_low, lower, lt_from, lt_true, not_higher, two_numbers}
use Rattle.cat_model.specs.Dues.{AreMoments, Moments, due_of, is_due, is_leased, is_live, lapse, lapse_of, moment_cmp, refs_until}
use Rattle.cat_model.specs.declared.types.Lease.{Lease}
use Rattle.cat_model.specs.declared.types.Record.{Record}
use Rattle.cat_model.proofs.Dues.{less, listed, none_without, without_sorted}

-- a moment with its reference, as an entry
abbrev Moment : Type 0
Moment = (ℕ × Text) × Unit {0}

not_lt : (x y : ℕ) → nat_lt x y ≡ false → y ≤ x
not_lt x y h = grind (arith, nat_tests)

le_yes : (x y : ℕ) → x ≤ y → nat_le x y ≡ true
le_yes x y h = grind (arith, nat_tests)

lt_not : (x y : ℕ) → y < x → nat_le x y ≡ false
lt_not x y h = grind (arith, nat_tests)

one_more : (n : ℕ) → suc n ≡ 1 + n
one_more n = omega arith

none_more : (n : ℕ) → 0 + n ≡ n
none_more n = omega arith

-- ---- the place behind the moments up to the present one

least : (r : Text) → is_gt (text_cmp [] r) ≡ false
least [] = refl
least (c ∷ r) = refl

behind : (now t : ℕ) (r : Text) → nat_lt now t ≡ true → is_gt (moment_cmp (now + 1, []) (t, r)) ≡ false
behind now t r n = go (two_numbers (now + 1) t)
  where
    after : now < t
    after = lt_from now t n

    go : ((now + 1) < t) ⊎ (((now + 1) ≡ t) ⊎ (t < (now + 1))) → is_gt (moment_cmp (now + 1, []) (t, r)) ≡ false
    go (inl l) = lower (now + 1) t [] r l
    go (inr (inl e)) = equally_low (now + 1) t [] r e (least r)
    go (inr (inr l)) = absurd (omega (arith, after))

past : (now t : ℕ) (r : Text) → nat_lt now t ≡ false → is_gt (moment_cmp (now + 1, []) (t, r)) ≡ true
past now t r n = go (is_gt (moment_cmp (now + 1, []) (t, r))) refl
  where
    go : (b : Bool) → is_gt (moment_cmp (now + 1, []) (t, r)) ≡ b → b ≡ true
    go true e = refl
    go false e = absurd (omega (arith, not_lt now t n, not_higher (now + 1) t [] r e))

pub before_until : (now : ℕ) (ds : Moments) → before moment_cmp (now + 1, []) ds ≡ length (refs_until now ds)
before_until now [] = refl
before_until now (d ∷ ds) = go (nat_lt now d.0.0) refl (before_until now ds)
  where
    go : (b : Bool) → nat_lt now d.0.0 ≡ b → before moment_cmp (now + 1, []) ds ≡ length (refs_until now ds)
        → cond (is_gt (moment_cmp (now + 1, []) d.0)) (suc (before moment_cmp (now + 1, []) ds)) 0 ≡ length (cond {A = List Text} b [] (d.0.1 ∷ refs_until now ds))
    go true n ih = ap (λ g. cond g (suc (before moment_cmp (now + 1, []) ds)) 0) (behind now d.0.0 d.0.1 n)
    go false n ih = ap (λ g. cond g (suc (before moment_cmp (now + 1, []) ds)) 0) (past now d.0.0 d.0.1 n) ∙ ap suc ih

-- ---- the first of some entries

module _ {K X : Type 0} {R : K → K → Ordering} (o : IsTotalOrder R) (s : IsAntisymmetric R) (e : K × X) (es : List (K × X)) (h : is_sorted R (e ∷ es) ≡ true) where
  -- its key stands nowhere else
  pub once : find R e.0 es ≡ None
  once = go (find R e.0 es) refl
    where
      go : (v : Option X) → find R e.0 es ≡ v → v ≡ None
      go None f = refl
      go (Some x) f = absurd (true≢false (sym (same_self o s e.0) ∙ ap is_eq (below_found o s e.0 e.0 es (and_first _ _ h) (ap is_some f))))

  -- without it the others are left
  pub rest : without R e.0 (e ∷ es) ≡ es
  rest = ap (λ b. cond (not b) (e ∷ without R e.0 es) (without R e.0 es)) (same_self o s e.0) ∙ none_without o s e.0 es (and_second _ _ h) once

module _ (now : ℕ) where
  -- what is behind a moment after the present one is after it, too
  none_after : (d : Moment) (ds : Moments) → is_sorted moment_cmp (d ∷ ds) ≡ true → nat_lt now d.0.0 ≡ true → refs_until now ds ≡ []
  none_after d [] h n = refl
  none_after d (e ∷ ds) h n = ap (λ b. cond {A = List Text} b [] (e.0.1 ∷ refs_until now ds)) (lt_true now e.0.0 later)
    where
      there : is_some (find moment_cmp e.0 (e ∷ ds)) ≡ true
      there = ap (λ b. is_some (cond b (Some e.1) (find moment_cmp e.0 ds))) (same_self ticket_total ticket_antisymmetric e.0)

      later : now < e.0.0
      later =
          let up : d.0.0 ≤ e.0.0 = not_higher d.0.0 e.0.0 d.0.1 e.0.1 (ap is_gt (below_found ticket_total ticket_antisymmetric d.0 e.0 (e ∷ ds) (and_first _ _ h) there)) in
          omega (arith, up, lt_from now d.0.0 n)

  -- one moment less
  until_less : (ds : Moments) (t : ℕ) (r : Text) → is_sorted moment_cmp ds ≡ true → is_some (find moment_cmp (t, r) ds) ≡ true
      → length (refs_until now ds) ≡ cond (nat_le t now) 1 0 + length (refs_until now (without moment_cmp (t, r) ds))
  until_less [] t r h f = absurd (true≢false (sym f))
  until_less (d ∷ ds) t r h f = go (eq_by_cmp moment_cmp (t, r) d.0) refl f (λ g. until_less ds t r (and_second _ _ h) g)
    where
      -- where it is the first
      first : (b : Bool) → nat_lt now d.0.0 ≡ b → length (cond {A = List Text} b [] (d.0.1 ∷ refs_until now ds)) ≡ cond (nat_le d.0.0 now) 1 0 + length (refs_until now ds)
      first true n = sym ((λ i. cond (lt_not d.0.0 now (lt_from now d.0.0 n) i) 1 0 + length (none_after d ds h n i)))
      first false n = one_more (length (refs_until now ds)) ∙ ap (λ c. cond c 1 0 + length (refs_until now ds)) (sym (le_yes d.0.0 now (not_lt now d.0.0 n)))

      -- where it is another one
      other : (b : Bool) → nat_lt now d.0.0 ≡ b → d.0.0 ≤ t → length (refs_until now ds) ≡ cond (nat_le t now) 1 0 + length (refs_until now (without moment_cmp (t, r) ds))
          → length (cond {A = List Text} b [] (d.0.1 ∷ refs_until now ds)) ≡ cond (nat_le t now) 1 0 + length (cond {A = List Text} b [] (d.0.1 ∷ refs_until now (without moment_cmp (t, r) ds)))
      other true n l ih =
          let after : now < d.0.0 = lt_from now d.0.0 n in
          ap (λ c. cond c 1 0 + 0) (sym (lt_not t now (omega (arith, after, l))))
      other false n l ih = omega (arith, ih)

      go : (b : Bool) → eq_by_cmp moment_cmp (t, r) d.0 ≡ b → is_some (cond b (Some d.1) (find moment_cmp (t, r) ds)) ≡ true
          → (is_some (find moment_cmp (t, r) ds) ≡ true → length (refs_until now ds) ≡ cond (nat_le t now) 1 0 + length (refs_until now (without moment_cmp (t, r) ds)))
          → length (refs_until now (d ∷ ds)) ≡ cond (nat_le t now) 1 0 + length (refs_until now (cond (not b) (d ∷ without moment_cmp (t, r) ds) (without moment_cmp (t, r) ds)))
      go true e f ih =
          let is : (t, r) ≡ d.0 = same_is ticket_total ticket_antisymmetric (t, r) d.0 e in
          let alone : without moment_cmp (t, r) ds ≡ ds = none_without ticket_total ticket_antisymmetric (t, r) ds (and_second _ _ h) (ap (λ k. find moment_cmp k ds) is ∙ once ticket_total ticket_antisymmetric d ds h) in
          first (nat_lt now d.0.0) refl ∙ sym (λ i. cond (nat_le (is i).0 now) 1 0 + length (refs_until now (alone i)))
      go false e f ih =
          let up : d.0.0 ≤ t = not_higher d.0.0 t d.0.1 r (ap is_gt (below_found ticket_total ticket_antisymmetric d.0 (t, r) ds (and_first _ _ h) f)) in
          other (nat_lt now d.0.0) refl up (ih f)

  -- as many moments stand up to the present one as there are records that have one
  counted : (f : Record → ℕ) (es : Map Record) (ds : Moments) → is_sorted text_cmp es ≡ true → is_sorted moment_cmp ds ≡ true → AreMoments f es ds
      → length (refs_until now ds) ≡ length (filter (λ e. nat_le (f e.1) now) es)
  counted f [] [] rise up i = refl
  counted f [] (d ∷ ds) rise up i = absurd (omega (arith, i.count))
  counted f (e ∷ es) ds rise up i =
      let here : get (e ∷ es) e.0 ≡ Some e.1 = ap (λ b. cond b (Some e.1) (get es e.0)) (same_self text_total text_antisymmetric e.0) in
      let left = without moment_cmp (f e.1, e.0) ds in
      let are : AreMoments f es left = subst (λ (m : Map Record). AreMoments f m left) (rest text_total text_antisymmetric e es rise) (less f (e ∷ es) ds rise up i e.0 e.1 here) in
      until_less ds (f e.1) e.0 up (listed f (e ∷ es) ds rise up i e.0 e.1 here)
      ∙ (ap (λ n. cond (nat_le (f e.1) now) 1 0 + n) (counted f es left (and_second _ _ rise) (without_sorted ticket_total ticket_antisymmetric (f e.1, e.0) ds up) are)
      ∙ go (nat_le (f e.1) now))
    where
      go : (b : Bool) → cond b 1 0 + length (filter (λ x. nat_le (f x.1) now) es) ≡ length (cond b (e ∷ filter (λ x. nat_le (f x.1) now) es) (filter (λ x. nat_le (f x.1) now) es))
      go true = sym (one_more (length (filter (λ x. nat_le (f x.1) now) es)))
      go false = none_more (length (filter (λ x. nat_le (f x.1) now) es))

  module _ (es : Map Record) (ds : Moments) (rise : is_sorted text_cmp es ≡ true) (up : is_sorted moment_cmp ds ≡ true) where
    pub count_is : AreMoments due_of es ds → length (refs_until now ds) ≡ length (filter (λ e. is_due now (Some e.1)) es)
    count_is = counted due_of es ds rise up

    -- a lease is live where it hasn't lapsed
    live_is : (v : Option Lease) → is_live now v ≡ not (nat_le (lapse v) now)
    live_is None = ap not (sym (le_yes 0 now (omega arith)))
    live_is (Some lease) = grind (arith, nat_tests)

    both : AreMoments lapse_of es ds → length (refs_until now ds) + length (filter (λ e. is_leased now (Some e.1)) es) ≡ length es
    both i =
        ap (λ n. n + length (filter (λ e. is_leased now (Some e.1)) es)) (counted lapse_of es ds rise up i)
        ∙ length-filter_both (λ (e : Text × Record). nat_le (lapse_of e.1) now) (λ (e : Text × Record). is_leased now (Some e.1)) (λ e. live_is e.1.lease) es

    pub lapsed_most : AreMoments lapse_of es ds → length (refs_until now ds) ≤ length es
    lapsed_most i = omega (arith, both i)

    pub leased_is : AreMoments lapse_of es ds → length es - length (refs_until now ds) ≡ length (filter (λ e. is_leased now (Some e.1)) es)
    leased_is i = omega (arith, both i)
