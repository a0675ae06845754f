-- Where keys stand among rows.
use Rattle.std.proofs.Common.{◌≡◌, ℕ, zero, suc, ◌<◌, Bool, true, false, ◌&&◌, cond, List, [], ◌∷◌, refl, sym, ap, subst, ◌∙◌, arith, Ordering, Less, Equal, Greater, true≢false}
use Rattle.std.specs.Prelude.{slice_get}
use Rattle.std.specs.Cmp.{IsTotalOrder}
use Rattle.std.specs.FinMap.Entries.{below_all, is_sorted}
use Rattle.std.specs.Ordering.{is_gt, is_lt, ordering_reverse}
use Rattle.std.specs.declared.option.Option.TheVariants.{Some}
use Rattle.std.proofs.lemmas.Option.{none-some, same_Some}
use Rattle.cat_collections.specs.Places.{before}

first_true : (a b : Bool) → (a && b) ≡ true → a ≡ true
first_true true b e = refl
first_true false b e = e

second_true : (a b : Bool) → (a && b) ≡ true → b ≡ true
second_true true b e = e
second_true false b e = absurd (true≢false (sym e))

is_less : (o : Ordering) → is_lt o ≡ true → o ≡ Less
is_less Less e = refl
is_less Equal e = absurd (true≢false (sym e))
is_less Greater e = absurd (true≢false (sym e))

less_greater : Less ≡ Greater → ⊥
less_greater e = true≢false (ap is_lt e)

passed : (q : Ordering) (i n : ℕ) → i < cond (is_gt q) (suc n) 0 → q ≡ Greater
passed Less i n h = absurd (omega arith)
passed Equal i n h = absurd (omega arith)
passed Greater i n h = refl

later : (q : Ordering) (i n : ℕ) → suc i < cond (is_gt q) (suc n) 0 → i < n
later Less i n h = absurd (omega arith)
later Equal i n h = absurd (omega arith)
later Greater i n h = omega arith

greater : {K : Type 0} {R : K → K → Ordering} → IsTotalOrder R → (k x e : K) → R k e ≡ Greater → R x e ≡ Less → R k x ≡ Greater
greater o k x e g l = o.antisymm k x ∙ ap ordering_reverse (o.trans x e k l (o.antisymm e k ∙ ap ordering_reverse g))

irreflexive : {K : Type 0} {R : K → K → Ordering} → IsTotalOrder R → (k : K) → R k k ≡ Less → ⊥
irreflexive o k p = less_greater (sym p ∙ (o.antisymm k k ∙ ap ordering_reverse p))

above_at : {K X : Type 0} (R : K → K → Ordering) (x : K) (rows : List (K × X)) (i : ℕ) (e : K × X) → below_all R x rows ≡ true → slice_get rows i ≡ Some e → R x e.0 ≡ Less
above_at R x [] i e h at = absurd (none-some _ at)
above_at {K} {X} R x (y ∷ rows) zero e h at = ap (λ (z : K × X). R x z.0) (sym (same_Some _ _ at)) ∙ is_less _ (first_true _ _ h)
above_at R x (y ∷ rows) (suc i) e h at = above_at R x rows i e (second_true _ _ h) at

module _ {K X : Type 0} {R : K → K → Ordering} (o : IsTotalOrder R) where
  -- the keys before the place of a key are below it
  pub before_below : (k : K) (rows : List (K × X)) (i : ℕ) (e : K × X) → slice_get rows i ≡ Some e → i < before R k rows → R k e.0 ≡ Greater
  before_below k [] i e at h = absurd (none-some _ at)
  before_below k (x ∷ rows) zero e at h = ap (λ (y : K × X). R k y.0) (sym (same_Some _ _ at)) ∙ passed (R k x.0) 0 (before R k rows) h
  before_below k (x ∷ rows) (suc i) e at h = before_below k rows i e at (later (R k x.0) i (before R k rows) h)

  -- a key of rows in order that is below a key stands before the place of that
  pub below_before : (k : K) (rows : List (K × X)) (i : ℕ) (e : K × X) → is_sorted R rows ≡ true → slice_get rows i ≡ Some e → R k e.0 ≡ Greater → i < before R k rows
  below_before k [] i e s at g = absurd (none-some _ at)
  below_before k (x ∷ rows) zero e s at g =
      let p : R k x.0 ≡ Greater = ap (λ (y : K × X). R k y.0) (same_Some _ _ at) ∙ g in
      subst (λ q. 0 < cond (is_gt q) (suc (before R k rows)) 0) (sym p) (omega arith)
  below_before k (x ∷ rows) (suc i) e s at g =
      let p : R k x.0 ≡ Greater = greater o k x.0 e.0 g (above_at R x.0 rows i e (first_true _ _ s) at) in
      let h : i < before R k rows = below_before k rows i e (second_true _ _ s) at g in
      subst (λ q. suc i < cond (is_gt q) (suc (before R k rows)) 0) (sym p) (omega arith)

  -- of two rows in order, the one whose key is below stands earlier
  pub earlier : (rows : List (K × X)) (i j : ℕ) (d e : K × X) → is_sorted R rows ≡ true → slice_get rows i ≡ Some d → slice_get rows j ≡ Some e → R d.0 e.0 ≡ Less → i < j
  earlier [] i j d e s at bt l = absurd (none-some _ at)
  earlier (x ∷ rows) zero zero d e s at bt l = absurd (irreflexive o d.0 (ap (λ (y : K × X). R d.0 y.0) (same_Some _ _ (sym at ∙ bt)) ∙ l))
  earlier (x ∷ rows) zero (suc j) d e s at bt l = omega arith
  earlier (x ∷ rows) (suc i) zero d e s at bt l =
      let p : R e.0 d.0 ≡ Less = ap (λ (y : K × X). R y.0 d.0) (sym (same_Some _ _ bt)) ∙ above_at R x.0 rows i d (first_true _ _ s) at in
      absurd (less_greater (sym l ∙ (o.antisymm d.0 e.0 ∙ ap ordering_reverse p)))
  earlier (x ∷ rows) (suc i) (suc j) d e s at bt l = let h : i < j = earlier rows i j d e (second_true _ _ s) at bt l in omega arith
