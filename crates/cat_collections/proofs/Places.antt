-- The place of a key, as it is found, is how many keys stand before it.
use Rattle.std.proofs.Common.{◌≡◌, ℕ, zero, suc, ◌<◌, ◌≤◌, arith, cond, false, List, [], ◌∷◌, length, drop, get_or, refl, ap, ◌∙◌, Ordering, Less, Equal, Greater}
use Rattle.std.specs.Prelude.{slice_get}
use Rattle.std.specs.declared.option.Option.TheVariants.{Some}
use Rattle.std.specs.Ordering.{is_gt}
use Rattle.cat_collections.specs.Rows.{IsAt, IsBetween}
use Rattle.cat_collections.specs.Places.{before, first_from, from}

module _ {K X : Type 0} (R : K → K → Ordering) where
  -- the keys before i are lower, and the one at i is not
  pub before_is : (k : K) (rows : List (K × X)) (i : ℕ) → i ≤ length rows → ((j : ℕ) (d : K × X) → j < i → R k (get_or rows j d).0 ≡ Greater)
      → ((d : K × X) → i < length rows → is_gt (R k (get_or rows i d).0) ≡ false) → before R k rows ≡ i
  before_is k [] zero l f g = refl
  before_is k [] (suc i) l f g = absurd (omega arith)
  before_is k (e ∷ es) zero l f g = ap (λ b. cond b (suc (before R k es)) 0) (g e (omega arith))
  before_is k (e ∷ es) (suc i) l f g =
      ap (λ q. cond (is_gt q) (suc (before R k es)) 0) (f zero e (omega arith)) ∙ ap suc (before_is k es i (omega arith) (λ j d h. f (suc j) d (omega arith)) (λ d h. g d (omega arith)))

  pub before_at : (k : K) (rows : List (K × X)) (i : ℕ) → IsAt R k rows i → before R k rows ≡ i
  before_at k rows i a = let w = a.within in before_is k rows i (omega arith) a.below (λ d _. ap is_gt (a.tied d))

  pub before_between : (k : K) (rows : List (K × X)) (i : ℕ) → IsBetween R k rows i → before R k rows ≡ i
  before_between k rows i b = before_is k rows i b.within b.below (λ d h. ap is_gt (b.above i d (omega arith) h))

  pub first_from_is : (k : K) (rows : List (K × X)) → first_from R k rows ≡ slice_get rows (before R k rows)
  first_from_is k [] = refl
  first_from_is k (e ∷ es) = go (R k e.0) (first_from_is k es)
    where
      go : (q : Ordering) → first_from R k es ≡ slice_get es (before R k es) → cond (is_gt q) (first_from R k es) (Some e) ≡ slice_get (e ∷ es) (cond (is_gt q) (suc (before R k es)) 0)
      go Less ih = refl
      go Equal ih = refl
      go Greater ih = ih

  pub from_is : (k : K) (rows : List (K × X)) → from R k rows ≡ drop (before R k rows) rows
  from_is k [] = refl
  from_is k (e ∷ es) = go (R k e.0) (from_is k es)
    where
      go : (q : Ordering) → from R k es ≡ drop (before R k es) es → cond (is_gt q) (from R k es) (e ∷ es) ≡ drop (cond (is_gt q) (suc (before R k es)) 0) (e ∷ es)
      go Less ih = refl
      go Equal ih = refl
      go Greater ih = ih
