-- The first of arrivals in order is the least.
use Rattle.std.proofs.Common.{T, ◌≡◌, ℕ, ◌<◌, ◌≤◌, Bool, true, false, cond, ◌&&◌, ◌||◌, List, [], ◌∷◌, refl, sym, ap, subst, ◌∙◌, unwrap_or, arith, true≢false, le_refl, nat_cmp, nat_lt, nat_eq, nat_le, is_lt, Less, Equal, Greater}
use Rattle.std.specs.declared.option.Option.{Option}
use Rattle.std.specs.declared.option.Option.TheVariants.{None, Some}
use Rattle.std.specs.Ordering.{eq_by_cmp}
use Rattle.std.specs.Cmp.{nat_cmp_total}
use Rattle.std.specs.FinMap.{nat_cmp-IsAntisymmetric}
use Rattle.std.specs.FinMap.Entries.{is_sorted, below_all}
use Rattle.std.proofs.lemmas.Bool.Decides.{nat_tests}
use Rattle.cat_collections.specs.Table.{keys, first}
use Rattle.cat_collections.proofs.Tables.{same_is, first_some, first_none}
use Rattle.cat_model.specs.Mend.{lesser, least}
use Rattle.cat_model.proofs.CutOff.{among}

same_number : (a b : ℕ) → eq_by_cmp nat_cmp a b ≡ true → a ≡ b
same_number = same_is nat_cmp_total nat_cmp-IsAntisymmetric

less_is : (a b : ℕ) → T (is_lt (nat_cmp a b)) → a < b
less_is a b h = go (nat_lt a b) refl (nat_eq a b) h
  where
    go : (p : Bool) → nat_lt a b ≡ p → (q : Bool) → T (is_lt (cond p Less (cond q Equal Greater))) → a < b
    go true e q h = grind (arith, nat_tests)
    go false e true h = absurd h
    go false e false h = absurd h

left_true : (a b : Bool) → T (a && b) → T a
left_true true b h = tt
left_true false b h = h

right_true : (a b : Bool) → T (a && b) → T b
right_true true b h = h
right_true false b h = absurd h

module _ {X : Type 0} where
  above_all : (k : ℕ) (es : List (ℕ × X)) → T (below_all nat_cmp k es) → (b : ℕ) → among b (keys es) ≡ true → k < b
  above_all k [] h b i = absurd (true≢false (sym i))
  above_all k (e ∷ es) h b i = go (eq_by_cmp nat_cmp b e.0) refl i (above_all k es (right_true _ _ h) b)
    where
      go : (c : Bool) → eq_by_cmp nat_cmp b e.0 ≡ c → (c || among b (keys es)) ≡ true → (among b (keys es) ≡ true → k < b) → k < b
      go true is i ih = subst (λ x. k < x) (sym (same_number b e.0 is)) (less_is k e.0 (left_true (is_lt (nat_cmp k e.0)) (below_all nat_cmp k es) h))
      go false is i ih = ih i

  first_least : (p : ℕ → Bool) (m : List (ℕ × X)) → T (is_sorted nat_cmp m) → (a b : ℕ) → first p (keys m) ≡ Some a → among b (keys m) ≡ true → p b ≡ true → a ≤ b
  first_least p [] s a b h i pb = absurd (true≢false (sym i))
  first_least p (e ∷ es) s a b h i pb = go (p e.0) refl h (eq_by_cmp nat_cmp b e.0) refl i (λ h i. first_least p es (right_true _ _ s) a b h i pb)
    where
      go : (c : Bool) → p e.0 ≡ c → cond c (Some e.0) (first p (keys es)) ≡ Some a → (d : Bool) → eq_by_cmp nat_cmp b e.0 ≡ d → (d || among b (keys es)) ≡ true
          → (first p (keys es) ≡ Some a → among b (keys es) ≡ true → a ≤ b) → a ≤ b
      go true pe h true is i ih = let x : e.0 ≡ a = ap (λ v. unwrap_or v e.0) h in let y = same_number b e.0 is in omega arith
      go true pe h false is i ih = let x : e.0 ≡ a = ap (λ v. unwrap_or v e.0) h in let y = above_all e.0 es (left_true _ _ s) b i in omega arith
      go false pe h true is i ih = absurd (true≢false (sym (sym (ap p (same_number b e.0 is)) ∙ pb) ∙ pe))
      go false pe h false is i ih = ih h i

-- the least that passes, or none does
abbrev pub IsLeastOf : (ℕ → Bool) → List ℕ → Option ℕ → Type 0
IsLeastOf p xs None = (b : ℕ) → among b xs ≡ true → p b ≡ false
IsLeastOf p xs (Some a) = (p a ≡ true) × ((b : ℕ) → among b xs ≡ true → p b ≡ true → a ≤ b)

module _ (p : ℕ → Bool) (x : ℕ) (xs : List ℕ) where
  passed_over : p x ≡ false → (v : Option ℕ) → IsLeastOf p xs v → IsLeastOf p (x ∷ xs) v
  passed_over px None l = still_none
    where
      still_none : (b : ℕ) → among b (x ∷ xs) ≡ true → p b ≡ false
      still_none b i = go (eq_by_cmp nat_cmp b x) refl i
        where
          go : (d : Bool) → eq_by_cmp nat_cmp b x ≡ d → (d || among b xs) ≡ true → p b ≡ false
          go true is i = ap p (same_number b x is) ∙ px
          go false is i = l b i
  passed_over px (Some a) l = (l.0, no_less)
    where
      no_less : (b : ℕ) → among b (x ∷ xs) ≡ true → p b ≡ true → a ≤ b
      no_less b i pb = go (eq_by_cmp nat_cmp b x) refl i
        where
          go : (d : Bool) → eq_by_cmp nat_cmp b x ≡ d → (d || among b xs) ≡ true → a ≤ b
          go true is i = absurd (true≢false (sym (sym (ap p (same_number b x is)) ∙ pb) ∙ px))
          go false is i = l.1 b i pb

  -- x passes, and is no greater than the others that do, or another is the least
  with_head : p x ≡ true → (c : ℕ) → (p c ≡ true) → c ≤ x → ((b : ℕ) → among b xs ≡ true → p b ≡ true → c ≤ b) → IsLeastOf p (x ∷ xs) (Some c)
  with_head px c pc le l = (pc, no_less)
    where
      no_less : (b : ℕ) → among b (x ∷ xs) ≡ true → p b ≡ true → c ≤ b
      no_less b i pb = go (eq_by_cmp nat_cmp b x) refl i
        where
          go : (d : Bool) → eq_by_cmp nat_cmp b x ≡ d → (d || among b xs) ≡ true → c ≤ b
          go true is i = let y = same_number b x is in omega arith
          go false is i = l b i pb

  counted : p x ≡ true → (v : Option ℕ) → IsLeastOf p xs v → IsLeastOf p (x ∷ xs) (Some (lesser x v))
  counted px None l = with_head px x px (le_refl x) (λ b i pb. absurd (true≢false (sym pb ∙ l b i)))
  counted px (Some a) l = go (nat_le x a) refl
    where
      go : (c : Bool) → nat_le x a ≡ c → IsLeastOf p (x ∷ xs) (Some (cond c x a))
      go true e = with_head px x px (le_refl x) (λ b i pb. let y = l.1 b i pb in grind (arith, nat_tests))
      go false e = with_head px a l.0 (grind (arith, nat_tests)) l.1

  with_one : (c : Bool) → p x ≡ c → (v : Option ℕ) → IsLeastOf p xs v → IsLeastOf p (x ∷ xs) (cond c (Some (lesser x v)) v)
  with_one true px v l = counted px v l
  with_one false px v l = passed_over px v l

pub least-is : (p : ℕ → Bool) (xs : List ℕ) → IsLeastOf p xs (least p xs)
least-is p [] = λ b i. absurd (true≢false (sym i))
least-is p (x ∷ xs) = with_one p x xs (p x) refl (least p xs) (least-is p xs)

-- of two lists that have all that pass, the one in order has as its first what the other has as its least
pub first_is_least : {X : Type 0} (p : ℕ → Bool) (m : List (ℕ × X)) (xs : List ℕ) → T (is_sorted nat_cmp m)
    → ((a : ℕ) → p a ≡ true → among a (keys m) ≡ true) → ((a : ℕ) → p a ≡ true → among a xs ≡ true) → first p (keys m) ≡ least p xs
first_is_least p m xs s in_m in_xs = go (first p (keys m)) refl (least p xs) (least-is p xs)
  where
    go : (u : Option ℕ) → first p (keys m) ≡ u → (v : Option ℕ) → IsLeastOf p xs v → u ≡ v
    go None e None l = refl
    go None e (Some b) l = absurd (true≢false (sym l.0 ∙ first_none nat_cmp_total nat_cmp-IsAntisymmetric p (keys m) e b (in_m b l.0)))
    go (Some a) e None l =
        let pa = first_some nat_cmp_total nat_cmp-IsAntisymmetric p (keys m) a e in
        absurd (true≢false (sym pa ∙ l a (in_xs a pa)))
    go (Some a) e (Some b) l =
        let pa = first_some nat_cmp_total nat_cmp-IsAntisymmetric p (keys m) a e in
        let x = first_least p m s a b e (in_m b l.0) l.0 in
        let y = l.1 a (in_xs a pa) pa in
        let z : a ≡ b = omega arith in
        ap Some z
