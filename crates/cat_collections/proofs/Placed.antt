-- A key's row among rows in order: what is found, put and removed there.
use Rattle.std.proofs.Common.{T, ◌≡◌, ℕ, zero, suc, ◌+◌, ◌-◌, ◌<◌, ◌≤◌, ◌⊎◌, inl, inr, arith, Bool, true, false, cond, not, ◌||◌, List, [], ◌∷◌, ◌++◌, length, take, drop, get_or, refl, sym, ap, subst, ◌∙◌, true≢false, Ordering, Less, Equal, Greater}
use Rattle.std.specs.Prelude.{MatchResult, Ok, Err, Result, is_ok}
use Rattle.std.specs.declared.option.Option.TheVariants.{None, Some}
use Rattle.std.specs.List.{insert, list_any, remove}
use Rattle.std.proofs.lemmas.List.Folds.{list_any_at}
use Rattle.std.specs.List.Sorted.{IsBinarySearchResult, IsNonDecreasingBy, IsSearchInRange, IsStrictlySortedBy}
use Rattle.std.specs.Ordering.{eq_by_cmp, is_eq, ordering_index, ordering_reverse}
use Rattle.std.specs.Cmp.{IsTotalOrder}
use Rattle.std.specs.FinMap.{IsAntisymmetric}
use Rattle.std.specs.FinMap.Entries.{by_order, is_sorted}
use Rattle.std.proofs.Math.ListN.{get_or-map, set}
use Rattle.std.proofs.lemmas.List.{drop_more, get_or-drop, length-drop, length-map}
use Rattle.std.proofs.lemmas.Map.Keys.{Less-from_sorted}
use Rattle.cat_collections.specs.Table.{find, keys, put}
use Rattle.cat_collections.proofs.Puts.{put_equal}
use Rattle.cat_collections.specs.Rows.{IsAt, IsBetween, without}
use Rattle.cat_collections.proofs.Orders.{keys_rise}

pub to_T : (b : Bool) → b ≡ true → T b
to_T true h = tt
to_T false h = absurd (true≢false (sym h))

pub from_T : (b : Bool) → T b → b ≡ true
from_T true h = refl
from_T false h = absurd h

pub same_or_below : (i j : ℕ) → i ≤ j → (i < j) ⊎ (i ≡ j)
same_or_below zero zero l = inr refl
same_or_below zero (suc j) l = inl (omega arith)
same_or_below (suc i) zero l = absurd (omega arith)
same_or_below (suc i) (suc j) l = go (same_or_below i j (omega arith))
  where
    go : (i < j) ⊎ (i ≡ j) → (suc i < suc j) ⊎ (suc i ≡ suc j)
    go (inl h) = inl (omega arith)
    go (inr h) = inr (ap suc h)

before_or_not : (i j : ℕ) → (j < i) ⊎ (i ≤ j)
before_or_not zero j = inr (omega arith)
before_or_not (suc i) zero = inl (omega arith)
before_or_not (suc i) (suc j) = go (before_or_not i j)
  where
    go : (j < i) ⊎ (i ≤ j) → (suc j < suc i) ⊎ (suc i ≤ suc j)
    go (inl h) = inl (omega arith)
    go (inr h) = inr (omega arith)

twice : (o : Ordering) → o ≡ ordering_reverse (ordering_reverse o)
twice Less = refl
twice Equal = refl
twice Greater = refl

reversed : (o p : Ordering) → ordering_reverse o ≡ p → o ≡ ordering_reverse p
reversed o p e = twice o ∙ ap ordering_reverse e

module _ {K : Type 0} {R : K → K → Ordering} (o : IsTotalOrder R) where
  rank_le : (k a b : K) → R a b ≡ Less → ordering_index (ordering_reverse (R k a)) ≤ ordering_index (ordering_reverse (R k b))
  rank_le k a b h = go (R k a) refl (R k b) refl
    where
      go : (p : Ordering) → R k a ≡ p → (q : Ordering) → R k b ≡ q → ordering_index (ordering_reverse p) ≤ ordering_index (ordering_reverse q)
      go Greater e q g = omega arith
      go Equal e q g = subst (λ r. 1 ≤ ordering_index (ordering_reverse r)) (sym (o.congr k a b e ∙ h) ∙ g) (omega arith)
      go Less e q g = subst (λ r. 2 ≤ ordering_index (ordering_reverse r)) (sym (o.trans k a b e h) ∙ g) (omega arith)

module _ {K X : Type 0} {R : K → K → Ordering} (o : IsTotalOrder R) (s : IsAntisymmetric R) where
  pub rises : (rows : List (K × X)) → is_sorted R rows ≡ true → IsStrictlySortedBy R (keys rows)
  rises rows h = keys_rise o s rows (to_T _ h)

  pub later : (rows : List (K × X)) (i j : ℕ) (d : K × X) → is_sorted R rows ≡ true → i < j → j < length rows → R (get_or rows i d).0 (get_or rows j d).0 ≡ Less
  later rows i j d h l m =
      let f : K × X → K = λ e. e.0 in
      let long : length (keys rows) ≡ length rows = length-map rows f in
      sym (λ t. R (get_or-map f rows i d t) (get_or-map f rows j d t)) ∙ Less-from_sorted R (keys rows) i j d.0 (rises rows h) l (omega arith)

  -- ---- the place

  non_decreasing : (k : K) (rows : List (K × X)) → is_sorted R rows ≡ true → IsNonDecreasingBy (λ e. ordering_index (ordering_reverse (R k e.0))) rows
  non_decreasing k rows h i j d l m = go (same_or_below i j l)
    where
      go : (i < j) ⊎ (i ≡ j) → ordering_index (ordering_reverse (R k (get_or rows i d).0)) ≤ ordering_index (ordering_reverse (R k (get_or rows j d).0))
      go (inl n) = rank_le o k (get_or rows i d).0 (get_or rows j d).0 (later rows i j d h n m)
      go (inr n) = subst (λ t. ordering_index (ordering_reverse (R k (get_or rows i d).0)) ≤ ordering_index (ordering_reverse (R k (get_or rows t d).0))) n (omega arith)

  lower : (k : K) (rows : List (K × X)) (i j : ℕ) (d : K × X) → is_sorted R rows ≡ true → i < length rows → R k (get_or rows i d).0 ≡ Equal → j < i → R k (get_or rows j d).0 ≡ Greater
  lower k rows i j d h m e l =
      let x = (get_or rows j d).0 in
      o.antisymm k x ∙ ap ordering_reverse (ap (R x) (s k (get_or rows i d).0 e) ∙ later rows j i d h l m)

  pub higher : (k : K) (rows : List (K × X)) (i : ℕ) → is_sorted R rows ≡ true → IsAt R k rows i → (j : ℕ) (d : K × X) → i < j → j < length rows → R k (get_or rows j d).0 ≡ Less
  higher k rows i h a j d l m = ap (λ q. R q (get_or rows j d).0) (s k (get_or rows i d).0 (a.tied d)) ∙ later rows i j d h l m

  pub spot : (k : K) (rows : List (K × X)) (r : Result ℕ ℕ) → is_sorted R rows ≡ true → IsSearchInRange r (length rows) → IsBinarySearchResult (λ e. ordering_reverse (R k e.0)) rows r → MatchResult r (IsAt R k rows) (IsBetween R k rows)
  spot k rows (Ok i) h range found = record {
    within = range;
    below = λ j d l. lower k rows i j d h range (reversed _ Equal (found d)) l;
    tied = λ d. reversed _ Equal (found d);
  }
  spot k rows (Err i) h range found =
      let p = found (non_decreasing k rows h) in
      record {
        within = range;
        below = λ j d l. reversed _ Less (p.0 j d (omega arith) l);
        above = λ j d l m. reversed _ Greater (p.1 j d l m);
      }

  -- ---- what is found

  skip_find : (k : K) (rows : List (K × X)) (i : ℕ) → ((j : ℕ) (d : K × X) → j < i → R k (get_or rows j d).0 ≡ Greater) → find R k rows ≡ find R k (drop i rows)
  skip_find k rows zero h = refl
  skip_find k [] (suc i) h = refl
  skip_find k (e ∷ es) (suc i) h = ap (λ p. cond (is_eq p) (Some e.1) (find R k es)) (h zero e (omega arith)) ∙ skip_find k es i (λ j d l. h (suc j) d (omega arith))

  find_none : (k : K) (rows : List (K × X)) → ((j : ℕ) (d : K × X) → j < length rows → R k (get_or rows j d).0 ≡ Less) → find R k rows ≡ None
  find_none k [] h = refl
  find_none k (e ∷ es) h = ap (λ p. cond (is_eq p) (Some e.1) (find R k es)) (h zero e (omega arith)) ∙ find_none k es (λ j d l. h (suc j) d (omega arith))

  pub find_at : (k : K) (rows : List (K × X)) (i : ℕ) (d : K × X) → IsAt R k rows i → Some (get_or rows i d).1 ≡ find R k rows
  find_at k rows i d a =
      sym (skip_find k rows i a.below
      ∙ (ap (find R k) (drop_more rows i d a.within) ∙ ap (λ p. cond (is_eq p) (Some (get_or rows i d).1) (find R k (drop (i + 1) rows))) (a.tied d)))

  after_place : (k : K) (rows : List (K × X)) (i : ℕ) → IsBetween R k rows i → (j : ℕ) (d : K × X) → j < length (drop i rows) → R k (get_or (drop i rows) j d).0 ≡ Less
  after_place k rows i b j d l =
      let long : length (drop i rows) ≡ length rows - i = length-drop i rows in
      ap (λ e. R k e.0) (get_or-drop i rows j d) ∙ b.above (i + j) d (omega arith) (omega arith)

  pub find_between : (k : K) (rows : List (K × X)) (i : ℕ) → IsBetween R k rows i → None ≡ find R k rows
  find_between k rows i b = sym (skip_find k rows i b.below ∙ find_none k (drop i rows) (after_place k rows i b))

  -- ---- what is put

  skip_put : (k : K) (v : X) (rows : List (K × X)) (i : ℕ) → ((j : ℕ) (d : K × X) → j < i → R k (get_or rows j d).0 ≡ Greater) → put R k v rows ≡ take i rows ++ put R k v (drop i rows)
  skip_put k v rows zero h = refl
  skip_put k v [] (suc i) h = refl
  skip_put k v (e ∷ es) (suc i) h =
      ap (λ p. by_order p ((k, v) ∷ e ∷ es) ((e.0, v) ∷ es) (e ∷ put R k v es)) (h zero e (omega arith)) ∙ ap (λ l. e ∷ l) (skip_put k v es i (λ j d l. h (suc j) d (omega arith)))

  put_front : (k : K) (v : X) (rows : List (K × X)) → ((j : ℕ) (d : K × X) → j < length rows → R k (get_or rows j d).0 ≡ Less) → put R k v rows ≡ (k, v) ∷ rows
  put_front k v [] h = refl
  put_front k v (e ∷ es) h = ap (λ p. by_order p ((k, v) ∷ e ∷ es) ((e.0, v) ∷ es) (e ∷ put R k v es)) (h zero e (omega arith))

  pub put_at : (k : K) (v : X) (rows : List (K × X)) (i : ℕ) (y : K × X) → IsAt R k rows i → y ≡ get_or rows i y → set rows i (y.0, v) ≡ put R k v rows
  put_at k v rows i y a is = put_equal R rows i k v y y a.within is is (ap (λ e. R k e.0) is ∙ a.tied y) (skip_put k v rows i a.below)

  pub put_between : (k : K) (v : X) (rows : List (K × X)) (i : ℕ) → IsBetween R k rows i → insert rows i (k, v) ≡ put R k v rows
  put_between k v rows i b = sym (skip_put k v rows i b.below ∙ ap (λ l. take i rows ++ l) (put_front k v (drop i rows) (after_place k rows i b)))

  -- ---- what is removed

  without_none : (k : K) (rows : List (K × X)) → ((j : ℕ) (d : K × X) → j < length rows → eq_by_cmp R k (get_or rows j d).0 ≡ false) → without R k rows ≡ rows
  without_none k [] h = refl
  without_none k (e ∷ es) h =
      ap (λ b. cond (not b) (e ∷ without R k es) (without R k es)) (h zero e (omega arith)) ∙ ap (λ l. e ∷ l) (without_none k es (λ j d l. h (suc j) d (omega arith)))

  pub without_between : (k : K) (rows : List (K × X)) (i : ℕ) → IsBetween R k rows i → rows ≡ without R k rows
  without_between k rows i b = sym (without_none k rows (λ j d l. go j d l (before_or_not i j)))
    where
      go : (j : ℕ) (d : K × X) → j < length rows → (j < i) ⊎ (i ≤ j) → eq_by_cmp R k (get_or rows j d).0 ≡ false
      go j d l (inl n) = ap is_eq (b.below j d n)
      go j d l (inr n) = ap is_eq (b.above j d n l)

  without_one : (k : K) (rows : List (K × X)) (i : ℕ) → i < length rows → ((j : ℕ) (d : K × X) → j < i → R k (get_or rows j d).0 ≡ Greater) → ((d : K × X) → R k (get_or rows i d).0 ≡ Equal)
      → ((j : ℕ) (d : K × X) → i < j → j < length rows → R k (get_or rows j d).0 ≡ Less) → remove rows i ≡ without R k rows
  without_one k [] i l below tied above = absurd (omega arith)
  without_one k (e ∷ es) zero l below tied above =
      sym (ap (λ p. cond (not (is_eq p)) (e ∷ without R k es) (without R k es)) (tied e) ∙ without_none k es (λ j d m. ap is_eq (above (suc j) d (omega arith) (omega arith))))
  without_one k (e ∷ es) (suc i) l below tied above =
      ap (λ l. e ∷ l) (without_one k es i (omega arith) (λ j d m. below (suc j) d (omega arith)) tied (λ j d m n. above (suc j) d (omega arith) (omega arith)))
      ∙ sym (ap (λ p. cond (not (is_eq p)) (e ∷ without R k es) (without R k es)) (below zero e (omega arith)))

  pub without_at : (k : K) (rows : List (K × X)) (i : ℕ) → is_sorted R rows ≡ true → IsAt R k rows i → remove rows i ≡ without R k rows
  without_at k rows i h a = without_one k rows i a.within a.below a.tied (higher k rows i h a)

-- ---- whether a list in order has a key

module _ {K : Type 0} {R : K → K → Ordering} (o : IsTotalOrder R) where
  keys_non_decreasing : (k : K) (xs : List K) → IsStrictlySortedBy R xs → IsNonDecreasingBy (λ x. ordering_index (ordering_reverse (R k x))) xs
  keys_non_decreasing k xs h i j d l m = go (same_or_below i j l)
    where
      go : (i < j) ⊎ (i ≡ j) → ordering_index (ordering_reverse (R k (get_or xs i d))) ≤ ordering_index (ordering_reverse (R k (get_or xs j d)))
      go (inl n) = rank_le o k (get_or xs i d) (get_or xs j d) (Less-from_sorted R xs i j d h n m)
      go (inr n) = subst (λ t. ordering_index (ordering_reverse (R k (get_or xs i d))) ≤ ordering_index (ordering_reverse (R k (get_or xs t d)))) n (omega arith)

  none_ties : (k : K) (xs : List K) → ((j : ℕ) (d : K) → j < length xs → eq_by_cmp R k (get_or xs j d) ≡ false) → list_any (eq_by_cmp R k) xs ≡ false
  none_ties k [] h = refl
  none_ties k (x ∷ xs) h = ap (λ b. b || list_any (eq_by_cmp R k) xs) (h zero x (omega arith)) ∙ none_ties k xs (λ j d l. h (suc j) d (omega arith))

  some_ties : (k : K) (xs : List K) (i : ℕ) → i < length xs → ((d : K) → eq_by_cmp R k (get_or xs i d) ≡ true) → list_any (eq_by_cmp R k) xs ≡ true
  some_ties k [] i l h = absurd (omega arith)
  some_ties k (x ∷ xs) i l h = list_any_at (eq_by_cmp R k) (x ∷ xs) i x l (h x)

  pub found_in : (k : K) (xs : List K) (r : Result ℕ ℕ) → IsStrictlySortedBy R xs → IsSearchInRange r (length xs) → IsBinarySearchResult (λ x. ordering_reverse (R k x)) xs r → is_ok r ≡ list_any (eq_by_cmp R k) xs
  found_in k xs (Ok i) h range found = sym (some_ties k xs i range (λ d. ap is_eq (reversed _ Equal (found d))))
  found_in k xs (Err i) h range found = sym (none_ties k xs (λ j d l. go j d l (before_or_not i j)))
    where
      go : (j : ℕ) (d : K) → j < length xs → (j < i) ⊎ (i ≤ j) → eq_by_cmp R k (get_or xs j d) ≡ false
      go j d l (inl n) = ap is_eq (reversed _ Less ((found (keys_non_decreasing k xs h)).0 j d (omega arith) n))
      go j d l (inr n) = ap is_eq (reversed _ Greater ((found (keys_non_decreasing k xs h)).1 j d n l))
