-- Lists of views: how a total, and what no two views share, change with one view.
use Rattle.std.proofs.Common.{◌≡◌, ◌≢◌, ℕ, zero, suc, ◌+◌, ◌≤◌, List, [], ◌∷◌, ◌++◌, length, set, sum_by, ◌⊎◌, inl, inr, sym, refl, ap, ◌∙◌, subst, ⊎_elim, arith, append_assoc}
use Rattle.std.proofs.lemmas.List.Sums.{sum_by-cons}
use mathlib.Core.Option.{some, some-injective, some-ne-none}
use mathlib.Core.List.{IsPrefix}
use lib.ListN.{get_elem?}
use Rattle.std.specs.declared.option.Option.{Option}
use Rattle.std.specs.declared.option.Option.TheVariants.{None, Some}
use Rattle.atomic_table.proofs.Lists.{at_set, at_snoc}

module _ {A : Type 0} where
  pub sum_set : (f : A → ℕ) (vs : List A) (i : ℕ) (v w : A) → get_elem? vs i ≡ some v → sum_by f (set vs i w) + f v ≡ sum_by f vs + f w
  sum_set f [] i v w e = absurd (some-ne-none v (sym e))
  sum_set f (x ∷ xs) zero v w e = let same : f x ≡ f v = ap f (some-injective x v e) in omega (arith, same, sum_by-cons f w xs, sum_by-cons f x xs)
  sum_set f (x ∷ xs) (suc i) v w e = omega (arith, sum_set f xs i v w e, sum_by-cons f x (set xs i w), sum_by-cons f x xs)

  pub sum_snoc : (f : A → ℕ) (vs : List A) (w : A) → sum_by f (vs ++ w ∷ []) ≡ sum_by f vs + f w
  sum_snoc f [] w = omega (arith, sum_by-cons f w [])
  sum_snoc f (x ∷ xs) w = omega (arith, sum_snoc f xs w, sum_by-cons f x (xs ++ w ∷ []), sum_by-cons f x xs)

  pub sum_le : (f g : A → ℕ) (vs : List A) → ((j : ℕ) (v : A) → get_elem? vs j ≡ some v → f v ≤ g v) → sum_by f vs ≤ sum_by g vs
  sum_le f g [] h = omega arith
  sum_le f g (x ∷ xs) h = omega (arith, h 0 x refl, sum_le f g xs (λ j v e. h (suc j) v e), sum_by-cons f x xs, sum_by-cons g x xs)

  pub at_self : (vs : List A) (i : ℕ) (v w : A) → get_elem? vs i ≡ some v → get_elem? (set vs i w) i ≡ some w
  at_self [] i v w e = absurd (some-ne-none v (sym e))
  at_self (x ∷ xs) zero v w e = refl
  at_self (x ∷ xs) (suc i) v w e = at_self xs i v w e

  pub same_at : (vs : List A) (i j : ℕ) (v w : A) → i ≡ j → get_elem? vs i ≡ some v → get_elem? vs j ≡ some w → v ≡ w
  same_at vs i j v w e a b = some-injective v w (sym a ∙ (ap (get_elem? vs) e ∙ b))

  pub each_set : (P : A → Type 0) (vs : List A) (i : ℕ) (w : A) → P w → ((j : ℕ) (d : A) → j ≢ i → get_elem? vs j ≡ some d → P d) → (j : ℕ) (d : A) → get_elem? (set vs i w) j ≡ some d → P d
  each_set P vs i w mine others j d e = ⊎_elim (λ (t : (j ≡ i) × (w ≡ d)). subst P t.1 mine) (λ (t : (j ≢ i) × (get_elem? vs j ≡ some d)). others j d t.0 t.1) (at_set vs i j w d e)

  pub each_snoc : (P : A → Type 0) (vs : List A) (w : A) → P w → ((j : ℕ) (d : A) → get_elem? vs j ≡ some d → P d) → (j : ℕ) (d : A) → get_elem? (vs ++ w ∷ []) j ≡ some d → P d
  each_snoc P vs w mine others j d e = ⊎_elim (others j d) (λ t. subst P t mine) (at_snoc vs w d j e)

  -- what stands in a longer list stands in the list, or is the last
  pub at_end : (vs : List A) (w b : A) (j : ℕ) → get_elem? (vs ++ w ∷ []) j ≡ some b → (get_elem? vs j ≡ some b) ⊎ ((w ≡ b) × (j ≡ length vs))
  at_end [] w b zero e = inr (some-injective w b e, refl)
  at_end [] w b (suc j) e = absurd (some-ne-none b (sym e))
  at_end (x ∷ xs) w b zero e = inl e
  at_end (x ∷ xs) w b (suc j) e = ⊎_elim (λ t. inl t) (λ t. inr (t.0, ap suc t.1)) (at_end xs w b j e)

  pub prefix_on : (xs ys add zs : List A) → IsPrefix xs ys → ys ++ add ≡ zs → IsPrefix xs zs
  prefix_on xs ys add zs p e = (p.0 ++ add, sym (append_assoc xs p.0 add) ∙ (ap (λ l. l ++ add) p.1 ∙ e))

  module _ (key : A → Option ℕ) where
    abbrev Apart : List A → Type 0
    Apart vs = (i j : ℕ) (v w : A) (n : ℕ) → get_elem? vs i ≡ some v → get_elem? vs j ≡ some w → key v ≡ Some n → key w ≡ Some n → i ≡ j

    back : (vs : List A) (id : ℕ) (v w : A) → get_elem? vs id ≡ some v → ((n : ℕ) → key w ≡ Some n → key v ≡ Some n) → (i : ℕ) (a : A) (n : ℕ) → get_elem? (set vs id w) i ≡ some a → key a ≡ Some n
        → (b : A) × (get_elem? vs i ≡ some b) × (key b ≡ Some n)
    back vs id v w at same i a n e k = ⊎_elim
        (λ (t : (i ≡ id) × (w ≡ a)). (v, ap (get_elem? vs) t.0 ∙ at, same n (ap key t.1 ∙ k)))
        (λ (t : (i ≢ id) × (get_elem? vs i ≡ some a)). (a, t.1, k)) (at_set vs id i w a e)

    -- a view's key stays, or goes
    pub apart_set : (vs : List A) (id : ℕ) (v w : A) → get_elem? vs id ≡ some v → ((n : ℕ) → key w ≡ Some n → key v ≡ Some n) → Apart vs → Apart (set vs id w)
    apart_set vs id v w at same d i j a b n ei ej ka kb = let x = back vs id v w at same i a n ei ka in let y = back vs id v w at same j b n ej kb in d i j x.0 y.0 n x.1 y.1 x.2 y.2

    -- a view gets a key that no view has
    pub apart_fresh : (vs : List A) (id : ℕ) (w : A) (m : ℕ) → key w ≡ Some m → ((j : ℕ) (d : A) → get_elem? vs j ≡ some d → key d ≢ Some m) → Apart vs → Apart (set vs id w)
    apart_fresh vs id w m is fresh d i j a b n ei ej ka kb = ⊎_elim
        (λ (t : (i ≡ id) × (w ≡ a)). ⊎_elim
        (λ (u : (j ≡ id) × (w ≡ b)). t.0 ∙ sym u.0)
        (λ (u : (j ≢ id) × (get_elem? vs j ≡ some b)). absurd (fresh j b u.1 (kb ∙ (sym ka ∙ (ap key (sym t.1) ∙ is)))))
        (at_set vs id j w b ej))
        (λ (t : (i ≢ id) × (get_elem? vs i ≡ some a)). ⊎_elim
        (λ (u : (j ≡ id) × (w ≡ b)). absurd (fresh i a t.1 (ka ∙ (sym kb ∙ (ap key (sym u.1) ∙ is)))))
        (λ (u : (j ≢ id) × (get_elem? vs j ≡ some b)). d i j a b n t.1 u.1 ka kb)
        (at_set vs id j w b ej))
        (at_set vs id i w a ei)

    -- a new view has none
    pub apart_snoc : (vs : List A) (w : A) → key w ≡ None → Apart vs → Apart (vs ++ w ∷ [])
    apart_snoc vs w none_here d i j a b n ei ej ka kb = ⊎_elim
        (λ (x : get_elem? vs i ≡ some a). ⊎_elim
        (λ (y : get_elem? vs j ≡ some b). d i j a b n x y ka kb)
        (λ (y : w ≡ b). absurd (cc (none_here, ap key y, kb)))
        (at_snoc vs w b j ej))
        (λ (x : w ≡ a). absurd (cc (none_here, ap key x, ka)))
        (at_snoc vs w a i ei)

    -- a new view has a key that no view has
    pub apart_more : (vs : List A) (w : A) (m : ℕ) → key w ≡ Some m → ((j : ℕ) (d : A) → get_elem? vs j ≡ some d → key d ≢ Some m) → Apart vs → Apart (vs ++ w ∷ [])
    apart_more vs w m is fresh d i j a b n ei ej ka kb = ⊎_elim
        (λ (x : get_elem? vs i ≡ some a). ⊎_elim
        (λ (y : get_elem? vs j ≡ some b). d i j a b n x y ka kb)
        (λ (y : (w ≡ b) × (j ≡ length vs)). absurd (fresh i a x (ka ∙ (sym kb ∙ (ap key (sym y.0) ∙ is)))))
        (at_end vs w b j ej))
        (λ (x : (w ≡ a) × (i ≡ length vs)). ⊎_elim
        (λ (y : get_elem? vs j ≡ some b). absurd (fresh j b y (kb ∙ (sym ka ∙ (ap key (sym x.0) ∙ is)))))
        (λ (y : (w ≡ b) × (j ≡ length vs)). x.1 ∙ sym y.1)
        (at_end vs w b j ej))
        (at_end vs w a i ei)
