-- Each step of a walk by places.
use Rattle.std.proofs.Common.{◌≡◌, ℕ, zero, suc, ◌+◌, ◌-◌, ◌<◌, true, List, [], ◌∷◌, ◌++◌, take, drop, length, refl, sym, ap, subst, ◌∙◌, Less, Equal, Greater, append-nil, take-append-drop, arith}
use Rattle.std.specs.Prelude.{slice_get, IsTrue}
use Rattle.std.specs.declared.option.Option.TheVariants.{None, Some}
use Rattle.std.specs.Ordering.{is_lt, ordering_reverse}
use Rattle.std.specs.FinMap.Entries.{below_all, is_sorted}
use Rattle.cat_collections.specs.Table.{Text, put}
use Rattle.cat_keeper.specs.Store.{RowKey, Changes, row_cmp, applied}
use Rattle.cat_keeper.specs.declared.rows.Change.TheVariants.{Put, Gone}
use Rattle.cat_collections.proofs.Sides.{drop_get}
use Rattle.cat_stored_rows.specs.Walk.{Leads, told_all}
use Rattle.cat_stored_rows.proofs.Leading.{both, came, first, gone, lower, row_antisymmetric, row_total, second, stayed, turned}

none_drop : {A : Type 0} (xs : List A) (i : ℕ) → slice_get xs i ≡ None → drop i xs ≡ []
none_drop [] zero h = refl
none_drop [] (suc i) h = refl
none_drop (x ∷ xs) zero h = absurd (cc)
none_drop (x ∷ xs) (suc i) h = none_drop xs i h

take_suc : {A : Type 0} (xs : List A) (i : ℕ) (x : A) → slice_get xs i ≡ Some x → take (suc i) xs ≡ take i xs ++ x ∷ []
take_suc [] i x h = absurd (cc)
take_suc (y ∷ xs) zero x h = let e : y ≡ x = cc in ap (λ z. z ∷ []) e
take_suc (y ∷ xs) (suc i) x h = ap (λ l. y ∷ l) (take_suc xs i x h)

one_more : (i : ℕ) → suc i ≡ i + 1
one_more i = omega arith

pub take_get : {A : Type 0} (xs : List A) (i : ℕ) (x : A) → slice_get xs i ≡ Some x → take (i + 1) xs ≡ take i xs ++ x ∷ []
take_get xs i x h = ap (λ n. take n xs) (sym (one_more i)) ∙ take_suc xs i x h

pub turned_round : (k j : RowKey) → row_cmp k j ≡ Greater → row_cmp j k ≡ Less
turned_round k j p = row_total.antisymm j k ∙ ap ordering_reverse p

pub tied : (k j : RowKey) → row_cmp k j ≡ Equal → k ≡ j
tied k j p = row_antisymmetric k j p

pub fewer_old : (l m i j k n : ℕ) → i < l → k ≡ i + 1 → n ≡ j → (l - k) + (m - n) < (l - i) + (m - j)
fewer_old l m i j k n h e d = omega arith

pub fewer_new : (l m i j k n : ℕ) → j < m → k ≡ i → n ≡ j + 1 → (l - k) + (m - n) < (l - i) + (m - j)
fewer_new l m i j k n h e d = omega arith

pub fewer_both : (l m i j k n : ℕ) → i < l → j < m → k ≡ i + 1 → n ≡ j + 1 → (l - k) + (m - n) < (l - i) + (m - j)
fewer_both l m i j k n h g e d = omega arith

module _ {X : Type 0} where
  sorted_drop : (rows : List (RowKey × X)) (i : ℕ) → is_sorted row_cmp rows ≡ true → is_sorted row_cmp (drop i rows) ≡ true
  sorted_drop rows zero h = h
  sorted_drop [] (suc i) h = h
  sorted_drop (e ∷ rows) (suc i) h = sorted_drop rows i (second _ _ h)

  -- what is left behind a place stands above what stands there
  pub rest_above : (rows : List (RowKey × X)) (i : ℕ) (e : RowKey × X) → IsTrue (is_sorted row_cmp rows) → slice_get rows i ≡ Some e → below_all row_cmp e.0 (drop (i + 1) rows) ≡ true
  rest_above rows i e h at = first _ _ (ap (is_sorted row_cmp) (sym (drop_get rows i e at)) ∙ sorted_drop rows i h)

  -- a key below the one at a place stands below all that is left
  pub left_above : (rows : List (RowKey × X)) (i : ℕ) (e : RowKey × X) (k : RowKey) → IsTrue (is_sorted row_cmp rows) → slice_get rows i ≡ Some e → row_cmp k e.0 ≡ Less → below_all row_cmp k (drop i rows) ≡ true
  left_above rows i e k h at p =
      ap (below_all row_cmp k) (drop_get rows i e at)
      ∙ both _ _ (ap is_lt p) (lower row_total k e.0 (drop (i + 1) rows) p (rest_above rows i e h at))

  pub none_above : (rows : List (RowKey × X)) (i : ℕ) (k : RowKey) → slice_get rows i ≡ None → below_all row_cmp k (drop i rows) ≡ true
  none_above rows i k at = ap (below_all row_cmp k) (none_drop rows i at)

  pub further : (rows : List (RowKey × X)) (i : ℕ) (e : RowKey × X) → slice_get rows i ≡ Some e → i < length rows
  further [] i e h = absurd (cc)
  further (x ∷ rows) zero e h = omega arith
  further (x ∷ rows) (suc i) e h = let p = further rows i e h in omega arith

  module _ (told : X → Text) (old new : List (RowKey × X)) (from to : ℕ) (b c : Changes) where
    abbrev Come : Changes → ℕ → ℕ → Type 0
    Come changes i j = Leads told changes (told_all told old) (take j new) (drop i old) (drop j new)

    abbrev Left : Changes → List (RowKey × X) → List (RowKey × X) → List (RowKey × X) → Type 0
    Left changes passed was is = Leads told changes (told_all told old) passed was is

    pub left_old : (w : RowKey × X) → IsTrue (is_sorted row_cmp old) → Come b from to → slice_get old from ≡ Some w → below_all row_cmp w.0 (drop to new) ≡ true
        → c ≡ put row_cmp w.0 Gone b → Come c (from + 1) to
    left_old w h come at high is =
        subst (λ (d : Changes). Come d (from + 1) to) (sym is)
        (gone told b (told_all told old) (take to new) w (drop (from + 1) old) (drop to new)
        (subst (λ (l : List (RowKey × X)). Left b (take to new) l (drop to new)) (drop_get old from w at) come) (rest_above old from w h at) high)

    passes : (n : RowKey × X) (was : List (RowKey × X)) → slice_get new to ≡ Some n → Left c (take to new ++ n ∷ []) was (drop (to + 1) new) → Left c (take (to + 1) new) was (drop (to + 1) new)
    passes n was at h = subst (λ (l : List (RowKey × X)). Left c l was (drop (to + 1) new)) (sym (take_get new to n at)) h

    pub came_new : (n : RowKey × X) → IsTrue (is_sorted row_cmp new) → Come b from to → slice_get new to ≡ Some n → below_all row_cmp n.0 (drop from old) ≡ true
        → c ≡ put row_cmp n.0 (Put (told n.1)) b → Come c from (to + 1)
    came_new n h come at low is =
        passes n (drop from old) at
        (subst (λ (d : Changes). Left d (take to new ++ n ∷ []) (drop from old) (drop (to + 1) new)) (sym is)
        (came told b (told_all told old) (take to new) n (drop from old) (drop (to + 1) new)
        (subst (λ (l : List (RowKey × X)). Left b (take to new) (drop from old) l) (drop_get new to n at) come) low (rest_above new to n h at)))

    at_both : (w n : RowKey × X) → Come b from to → slice_get old from ≡ Some w → slice_get new to ≡ Some n → Left b (take to new) (w ∷ drop (from + 1) old) (n ∷ drop (to + 1) new)
    at_both w n come at on =
        subst (λ (l : List (RowKey × X)). Left b (take to new) (w ∷ drop (from + 1) old) l) (drop_get new to n on)
        (subst (λ (l : List (RowKey × X)). Left b (take to new) l (drop to new)) (drop_get old from w at) come)

    low_old : (w n : RowKey × X) → IsTrue (is_sorted row_cmp old) → slice_get old from ≡ Some w → w.0 ≡ n.0 → below_all row_cmp n.0 (drop (from + 1) old) ≡ true
    low_old w n h at key = subst (λ (k : RowKey). below_all row_cmp k (drop (from + 1) old) ≡ true) key (rest_above old from w h at)

    pub turned_both : (w n : RowKey × X) → IsTrue (is_sorted row_cmp old) → IsTrue (is_sorted row_cmp new) → Come b from to → slice_get old from ≡ Some w → slice_get new to ≡ Some n → w.0 ≡ n.0
        → c ≡ put row_cmp n.0 (Put (told n.1)) b → Come c (from + 1) (to + 1)
    turned_both w n g h come at on key is =
        passes n (drop (from + 1) old) on
        (subst (λ (d : Changes). Left d (take to new ++ n ∷ []) (drop (from + 1) old) (drop (to + 1) new)) (sym is)
        (turned told b (told_all told old) (take to new) w n (drop (from + 1) old) (drop (to + 1) new)
        (at_both w n come at on) key (low_old w n g at key) (rest_above new to n h on)))

    pub stayed_both : (w n : RowKey × X) → IsTrue (is_sorted row_cmp old) → IsTrue (is_sorted row_cmp new) → Come b from to → slice_get old from ≡ Some w → slice_get new to ≡ Some n → w.0 ≡ n.0
        → told w.1 ≡ told n.1 → c ≡ b → Come c (from + 1) (to + 1)
    stayed_both w n g h come at on key same is =
        passes n (drop (from + 1) old) on
        (subst (λ (d : Changes). Left d (take to new ++ n ∷ []) (drop (from + 1) old) (drop (to + 1) new)) (sym is)
        (stayed told b (told_all told old) (take to new) w n (drop (from + 1) old) (drop (to + 1) new)
        (at_both w n come at on) key same (low_old w n g at key) (rest_above new to n h on)))

    whole : slice_get new to ≡ None → take to new ≡ new
    whole on = sym (append-nil (take to new)) ∙ (ap (λ l. take to new ++ l) (sym (none_drop new to on)) ∙ take-append-drop to new)

    -- nothing is left
    pub arrived : Come b from to → slice_get old from ≡ None → slice_get new to ≡ None → applied b (told_all told old) ≡ told_all told new
    arrived come at on =
        come.leads
        ∙ ((λ i. told_all told (whole on i) ++ told_all told (none_drop old from at i))
        ∙ append-nil (told_all told new))
