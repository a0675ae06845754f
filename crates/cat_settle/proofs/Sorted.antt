-- Marks that a stable sort by ticket leaves stand in order of ticket.
use Rattle.std.proofs.Common.{◌≡◌, ℕ, suc, ◌<◌, ◌≤◌, Bool, true, false, cond, not, ◌&&◌, List, [], ◌∷◌, refl, sym, ap, ◌∙◌, nat_eq, nat_lt, nat_le, filter, arith}
use Rattle.std.proofs.lemmas.Bool.Decides.{nat_tests}
use mathlib.Core.Path.{fun_ext}
use Rattle.std.specs.List.{All, AllByRecursion}
use Rattle.std.specs.List.Sorted.{IsNonDecreasingBy, IsSortedByKey, IsStableByKey, ties}
use Rattle.std.specs.Ordering.{is_lt, nat_cmp}
use Rattle.std.specs.declared.cmp.Ordering.TheVariants.{Less, Equal, Greater}
use Rattle.std.specs.Fn.{Called, ComputesKey}
use Rattle.std.proofs.lemmas.Fn.{always_returns_same}
use Rattle.std.proofs.lemmas.List.Elements.{recursion_from_All}
use Rattle.std.proofs.lemmas.List.Sorted.{IsNonDecreasingBy-drop, IsNonDecreasingBy-from_sort_by_key}
use denote.Param.Members.{Mut}
use denote.Ref.{Bor}
use Rattle.cat_model.specs.Catalogue.{Ref}
use Rattle.cat_model.specs.Settle.{insert_mark, marks_in_order}

is_lt-nat_cmp : (a b : ℕ) → is_lt (nat_cmp a b) ≡ nat_lt a b
is_lt-nat_cmp a b = go (nat_lt a b) (nat_eq a b)
  where
    go : (p q : Bool) → is_lt (cond p Less (cond q Equal Greater)) ≡ p
    go true q = refl
    go false true = refl
    go false false = refl

-- neither of two numbers is less just where they are equal
neither_less : (a b : ℕ) → (not (nat_lt a b) && not (nat_lt b a)) ≡ nat_eq a b
neither_less a b = go (nat_lt a b) refl (nat_lt b a) refl (nat_eq a b) refl
  where
    go : (p : Bool) → nat_lt a b ≡ p → (q : Bool) → nat_lt b a ≡ q → (r : Bool) → nat_eq a b ≡ r → (not p && not q) ≡ r
    go true h q k true l = absurd (grind (arith, nat_tests))
    go true h true k false l = refl
    go true h false k false l = refl
    go false h true k true l = absurd (grind (arith, nat_tests))
    go false h true k false l = refl
    go false h false k true l = refl
    go false h false k false l = absurd (grind (arith, nat_tests))

same_number : (a : ℕ) → nat_eq a a ≡ true
same_number a = grind (arith, nat_tests)

other_number : (a b : ℕ) → a < b → nat_eq a b ≡ false
other_number a b h = grind (arith, nat_tests)

equal_numbers : (a b : ℕ) → nat_lt a b ≡ false → nat_lt b a ≡ false → a ≡ b
equal_numbers a b h k = grind (arith, nat_tests)

less_number : (a b : ℕ) → nat_lt a b ≡ true → a < b
less_number a b h = grind (arith, nat_tests)

module _ {X : Type 0} (n : X → ℕ) where
  abbrev same : X → X → Bool
  same x y = nat_eq (n x) (n y)

  -- n falls nowhere along a list
  abbrev Rises : List X → Type 0
  Rises [] = Unit {0}
  Rises (x ∷ xs) = AllByRecursion (λ y. n x ≤ n y) xs × Rises xs

  above : (x z : X) (zs : List X) → n x < n z → AllByRecursion (λ y. n z ≤ n y) zs → AllByRecursion (λ y. n x < n y) zs
  above x z [] less h = tt
  above x z (y ∷ ys) less h = ((let l = h.0 in omega arith), above x z ys less h.1)

  none_same : (x : X) (zs : List X) → AllByRecursion (λ y. n x < n y) zs → filter (same x) zs ≡ []
  none_same x [] h = refl
  none_same x (z ∷ zs) h = ap (λ b. cond b (z ∷ filter (same x) zs) (filter (same x) zs)) (other_number (n x) (n z) h.0) ∙ none_same x zs h.1

  own_first : (x : X) (xs : List X) → filter (same x) (x ∷ xs) ≡ x ∷ filter (same x) xs
  own_first x xs = ap (λ b. cond b (x ∷ filter (same x) xs) (filter (same x) xs)) (same_number (n x))

  no_lower : (x z : X) (xs zs : List X) → n x < n z → Rises (z ∷ zs) → filter (same x) (x ∷ xs) ≡ filter (same x) (z ∷ zs) → ⊥
  no_lower x z xs zs less h e = let l = sym (own_first x xs) ∙ (e ∙ none_same x (z ∷ zs) (less, above x z zs less h.0)) in absurd (cc)

  -- lists along which n doesn't fall, and that have the same at each number in the same order, are one
  rising_is : (xs zs : List X) → Rises xs → Rises zs → ((x : X) → filter (same x) xs ≡ filter (same x) zs) → xs ≡ zs
  rising_is [] [] p q h = refl
  rising_is [] (z ∷ zs) p q h = let l = h z ∙ own_first z zs in absurd (cc)
  rising_is (x ∷ xs) [] p q h = let l = sym (own_first x xs) ∙ h x in absurd (cc)
  rising_is (x ∷ xs) (z ∷ zs) p q h = go (nat_lt (n x) (n z)) refl (nat_lt (n z) (n x)) refl (rising_is xs zs p.1 q.1)
    where
      go : (b : Bool) → nat_lt (n x) (n z) ≡ b → (c : Bool) → nat_lt (n z) (n x) ≡ c → (((y : X) → filter (same y) xs ≡ filter (same y) zs) → xs ≡ zs) → x ∷ xs ≡ z ∷ zs
      go true e c f ih = absurd (no_lower x z xs zs (less_number (n x) (n z) e) q (h x))
      go false e true f ih = absurd (no_lower z x zs xs (less_number (n z) (n x) f) p (sym (h z)))
      go false e false f ih =
          let alike : n x ≡ n z = equal_numbers (n x) (n z) e f in
          let heads : x ∷ filter (same x) xs ≡ z ∷ filter (same x) zs = sym (own_first x xs) ∙ (h x ∙ ap (λ b. cond b (z ∷ filter (same x) zs) (filter (same x) zs)) (ap (nat_eq (n x)) (sym alike) ∙ same_number (n x))) in
          let first : x ≡ z = cc in
          let rest : xs ≡ zs = ih (λ y. tails y (same y x) (h y ∙ ap (λ k. cond (nat_eq (n y) k) (z ∷ filter (same y) zs) (filter (same y) zs)) (sym alike))) in
          (λ i. first i ∷ rest i)
        where
          tails : (y : X) (b : Bool) → cond b (x ∷ filter (same y) xs) (filter (same y) xs) ≡ cond b (z ∷ filter (same y) zs) (filter (same y) zs) → filter (same y) xs ≡ filter (same y) zs
          tails y true e = cc
          tails y false e = e

  rises_from : (xs : List X) → IsNonDecreasingBy n xs → Rises xs
  rises_from [] h = tt
  rises_from (x ∷ xs) h = (recursion_from_All (λ y. n x ≤ n y) xs first, rises_from xs (IsNonDecreasingBy-drop n 1 (x ∷ xs) h))
    where
      first : All (λ y. n x ≤ n y) xs
      first k d lt = h 0 (suc k) d (omega arith) (omega arith)

  ties_same : (x : X) (xs : List X) → filter (ties (λ x y. is_lt (nat_cmp (n x) (n y))) x) xs ≡ filter (same x) xs
  ties_same x xs = ap (λ test. filter test xs) (fun_ext (λ y. (λ i. not (is_lt-nat_cmp (n x) (n y) i) && not (is_lt-nat_cmp (n y) (n x) i)) ∙ neither_less (n x) (n y)))

-- ---- the marks in order of ticket

abbrev Mark : Type 0
Mark = Ref × ℕ

abbrev ticket : Mark → ℕ
ticket e = e.1

lowest : (e : Mark) (P : Mark → Type 0) (l : List Mark) → P e → AllByRecursion P l → AllByRecursion P (insert_mark e l)
lowest e P [] p h = (p, tt)
lowest e P (f ∷ fs) p h = go (nat_le e.1 f.1) (lowest e P fs p h.1)
  where
    go : (b : Bool) → AllByRecursion P (insert_mark e fs) → AllByRecursion P (cond b (e ∷ f ∷ fs) (f ∷ insert_mark e fs))
    go true ih = (p, h)
    go false ih = (h.0, ih)

insert_rises : (e : Mark) (l : List Mark) → Rises ticket l → Rises ticket (insert_mark e l)
insert_rises e [] h = (tt, tt)
insert_rises e (f ∷ fs) h = go (nat_le e.1 f.1) refl (insert_rises e fs h.1)
  where
    weaker : (fs : List Mark) → e.1 ≤ f.1 → AllByRecursion (λ y. f.1 ≤ ticket y) fs → AllByRecursion (λ y. e.1 ≤ ticket y) fs
    weaker [] le h = tt
    weaker (y ∷ ys) le h = ((let l = h.0 in omega arith), weaker ys le h.1)

    go : (b : Bool) → nat_le e.1 f.1 ≡ b → Rises ticket (insert_mark e fs) → Rises ticket (cond b (e ∷ f ∷ fs) (f ∷ insert_mark e fs))
    go true k ih = let l : e.1 ≤ f.1 = grind (arith, nat_tests) in ((l, weaker fs l h.0), h)
    go false k ih = let l : f.1 ≤ e.1 = grind (arith, nat_tests) in (lowest e (λ y. f.1 ≤ ticket y) fs l h.0, ih)

-- a mark goes before those of its ticket
insert_first : (x e : Mark) (l : List Mark) → filter (same ticket x) (insert_mark e l) ≡ filter (same ticket x) (e ∷ l)
insert_first x e [] = refl
insert_first x e (f ∷ fs) = go (nat_le e.1 f.1) refl (insert_first x e fs)
  where
    go : (b : Bool) → nat_le e.1 f.1 ≡ b → filter (same ticket x) (insert_mark e fs) ≡ filter (same ticket x) (e ∷ fs) → filter (same ticket x) (cond b (e ∷ f ∷ fs) (f ∷ insert_mark e fs)) ≡ filter (same ticket x) (e ∷ f ∷ fs)
    go true k ih = refl
    go false k ih = ap (λ l. cond (same ticket x f) (f ∷ l) l) ih ∙ passed (same ticket x e) refl (same ticket x f) refl
      where
        passed : (b : Bool) → same ticket x e ≡ b → (c : Bool) → same ticket x f ≡ c
            → (let l = cond b (e ∷ filter (same ticket x) fs) (filter (same ticket x) fs) in cond c (f ∷ l) l) ≡ (let l = cond c (f ∷ filter (same ticket x) fs) (filter (same ticket x) fs) in cond b (e ∷ l) l)
        passed true i true j = absurd (grind (arith, nat_tests))
        passed true i false j = refl
        passed false i true j = refl
        passed false i false j = refl

order_rises : (xs : List Mark) → Rises ticket (marks_in_order xs)
order_rises [] = tt
order_rises (x ∷ xs) = insert_rises x (marks_in_order xs) (order_rises xs)

order_keeps : (x : Mark) (xs : List Mark) → filter (same ticket x) (marks_in_order xs) ≡ filter (same ticket x) xs
order_keeps x [] = refl
order_keeps x (y ∷ ys) = insert_first x y (marks_in_order ys) ∙ ap (λ l. cond (same ticket x y) (y ∷ l) l) (order_keeps x ys)

-- what `sort_by_key` ensures, where each call gives a mark's ticket
pub sorted_in_order : {F : Type 0} {g : Mut F (Bor Mark × Unit {0}) ℕ} {f : F} (xs ys : List Mark)
    → ((key : Mark → ℕ) → ComputesKey g key f → IsSortedByKey key nat_cmp ys)
    → ((key : Mark → ℕ) → ComputesKey g key f → IsStableByKey key nat_cmp xs ys)
    → ((a : Bor Mark × Unit {0}) (r : ℕ) (f' : F) → Called g f a r f' → (r ≡ a.0.now.1) × (f' ≡ f)) → ys ≡ marks_in_order xs
sorted_in_order {g = g} {f = f} xs ys up stable calls =
    let kept = stable ticket (always_returns_same g (λ a r. r ≡ a.0.now.1) f calls) in
    rising_is ticket ys (marks_in_order xs) (rises_from ticket ys (IsNonDecreasingBy-from_sort_by_key ticket ys up calls)) (order_rises xs)
    (λ x. sym (ties_same ticket x ys) ∙ (kept x ∙ (ties_same ticket x xs ∙ sym (order_keeps x xs))))
