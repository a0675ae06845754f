-- What stands in a list that is put in order, and which list in order has the same.
use Rattle.std.proofs.Common.{T, ◌≡◌, Bool, true, false, cond, ◌&&◌, ◌||◌, List, [], ◌∷◌, get_or, refl, sym, ap, subst, ◌∙◌, is_some, true≢false, Ordering, Less, Equal, Greater}
use Rattle.std.specs.declared.option.Option.{Option}
use Rattle.std.specs.declared.option.Option.TheVariants.{None, Some}
use Rattle.std.specs.Ordering.{eq_by_cmp, is_lt}
use Rattle.std.specs.List.{filter, list_any, Any, Contains, dedup, AllByRecursion}
use Rattle.std.specs.List.Sorted.{IsPermutation, IsSorted, IsSortedBy, IsStrictlySortedBy}
use Rattle.std.specs.Cmp.{IsTotalOrder, IsStrictWeakOrder, eq_by_cmp_equiv, both_ways}
use Rattle.std.specs.FinMap.{IsAntisymmetric}
use Rattle.std.specs.FinMap.Entries.{is_some-find, is_sorted, below_all, same_entries}
use Rattle.std.proofs.lemmas.Map.Views.{list_any-from_Contains}
use Rattle.std.proofs.lemmas.List.Folds.{Any-from_list_any}
use Rattle.std.proofs.lemmas.List.Kept.{Contains-dedup, Contains-from_dedup, IsStrictlySortedBy-dedup}
use Rattle.std.proofs.lemmas.List.Sorted.{Contains-permutation, IsPermutation-sym, ranks_by}
use Rattle.std.proofs.lemmas.Fn.{always_returns_same}
use Rattle.std.specs.Fn.{Called, ComparesAs}
use denote.Param.Members.{Mut}
use denote.Ref.{Bor}
use Rattle.cat_collections.specs.Table.{keys, find, tabulate}
use Rattle.cat_collections.proofs.Tables.{find-tabulate, is_sorted-tabulate, same_is}
use Rattle.cat_collections.specs.Order.{in_order}

is_some-cond : (b : Bool) → is_some (cond {A = Option (Unit {0})} b (Some (tt {0})) None) ≡ b
is_some-cond true = refl
is_some-cond false = refl

both : (a b : Bool) → T a → T b → T (a && b)
both true b p q = q
both false b p q = p

less_from_is_lt : (o : Ordering) → T (is_lt o) → o ≡ Less
less_from_is_lt Less h = refl
less_from_is_lt Equal h = absurd h
less_from_is_lt Greater h = absurd h

left_true : (a b : Bool) → T (a && b) → T a
left_true true b h = tt
left_true false b h = h

right_true : (a b : Bool) → T (a && b) → T b
right_true true b h = h
right_true false b h = absurd h

module _ {K : Type 0} {R : K → K → Ordering} (o : IsTotalOrder R) (s : IsAntisymmetric R) where
  -- ---- what a list has

  pub has_from_contains : (xs : List K) (x : K) → Contains xs x → list_any (eq_by_cmp R x) xs ≡ true
  has_from_contains xs x h = list_any-from_Contains (eq_by_cmp_equiv o) x xs h

  pub contains_from_has : (xs : List K) (x : K) → list_any (eq_by_cmp R x) xs ≡ true → Contains xs x
  contains_from_has xs x h =
      let found : Any (λ y. eq_by_cmp R x y ≡ true) xs = Any-from_list_any (eq_by_cmp R x) xs h in
      let is : x ≡ found.1 = same_is o s x found.1 found.4 in
      (found.0, found.2, subst (λ y. get_or xs found.0 y ≡ y) (sym is) found.3)

  -- in order stands just what the list has
  pub has-in_order : (x : K) (xs : List K) → list_any (eq_by_cmp R x) (in_order R xs) ≡ list_any (eq_by_cmp R x) xs
  has-in_order x xs =
      sym (is_some-find R x (tabulate R xs (λ y. Some (tt {0}))))
      ∙ (ap is_some (find-tabulate o s x xs (λ y. Some (tt {0}))) ∙ is_some-cond (list_any (eq_by_cmp R x) xs))

  -- ---- a list in order that has the same is that list

  abbrev entries : List K → List (K × Unit {0})
  entries [] = []
  entries (x ∷ xs) = (x, tt {0}) ∷ entries xs

  keys-entries : (xs : List K) → keys (entries xs) ≡ xs
  keys-entries [] = refl
  keys-entries (x ∷ xs) = ap (λ ys. x ∷ ys) (keys-entries xs)

  find-entries : (q : K) (xs : List K) → find R q (entries xs) ≡ cond (list_any (eq_by_cmp R q) xs) (Some (tt {0})) None
  find-entries q [] = refl
  find-entries q (x ∷ xs) = go (eq_by_cmp R q x) (find-entries q xs)
    where
      go : (b : Bool) → find R q (entries xs) ≡ cond (list_any (eq_by_cmp R q) xs) (Some (tt {0})) None → cond b (Some (tt {0})) (find R q (entries xs)) ≡ cond (b || list_any (eq_by_cmp R q) xs) (Some (tt {0})) None
      go true rest = refl
      go false rest = rest

  below-entries : (x : K) (xs : List K) → AllByRecursion (λ y. R x y ≡ Less) xs → T (below_all R x (entries xs))
  below-entries x [] h = tt
  below-entries x (y ∷ ys) h = both _ _ (subst (λ o. T (is_lt o)) (sym h.0) tt) (below-entries x ys h.1)

  is_sorted-entries : (xs : List K) → IsStrictlySortedBy R xs → T (is_sorted R (entries xs))
  unfolding IsStrictlySortedBy
  is_sorted-entries [] h = tt
  is_sorted-entries (x ∷ xs) h = both _ _ (below-entries x xs h.0) (is_sorted-entries xs h.1)

  pub in_order_is : (xs zs : List K) → IsStrictlySortedBy R zs → ((x : K) → list_any (eq_by_cmp R x) zs ≡ list_any (eq_by_cmp R x) xs) → zs ≡ in_order R xs
  in_order_is xs zs rising alike =
      let found : (q : K) → find R q (entries zs) ≡ find R q (tabulate R xs (λ y. Some (tt {0}))) =
      λ q. find-entries q zs ∙ (ap (λ b. cond {A = Option (Unit {0})} b (Some (tt {0})) None) (alike q) ∙ sym (find-tabulate o s q xs (λ y. Some (tt {0})))) in
      sym (keys-entries zs)
      ∙ ap keys (same_entries R o s (entries zs) (tabulate R xs (λ y. Some (tt {0}))) (is_sorted-entries zs rising) (is_sorted-tabulate o s xs (λ y. Some (tt {0}))) found)

  -- what a sort and a pass over neighbours leave
  pub in_order_from_sort : (xs ys zs : List K) → IsPermutation xs ys → IsSorted R ys → zs ≡ dedup (eq_by_cmp R) ys → zs ≡ in_order R xs
  in_order_from_sort xs ys zs moved sorted once =
      let rising : IsStrictlySortedBy R zs = subst (IsStrictlySortedBy R) (sym once) (IsStrictlySortedBy-dedup o (λ x y. refl) ys sorted) in
      let laws = eq_by_cmp_equiv o in
      in_order_is xs zs rising
      (λ x. both_ways _ _
      (λ h. has_from_contains xs x (Contains-permutation ys xs x (IsPermutation-sym xs ys moved) (Contains-from_dedup (eq_by_cmp R) ys x (subst (λ l. Contains l x) once (contains_from_has zs x h)))))
      (λ h. has_from_contains zs x (subst (λ l. Contains l x) (sym once) (Contains-dedup laws (same_is o s) ys x (Contains-permutation xs ys x moved (contains_from_has xs x h))))))

  -- what `sort_by` ensures, where each call compares two keys
  pub sorted_from_sort_by : {F : Type 0} {g : Mut F (Bor K × (Bor K × Unit {0})) Ordering} {f : F} (xs : List K)
      → ((lt : K → K → Bool) → IsStrictWeakOrder lt → ComparesAs g lt f → IsSortedBy lt xs)
      → ((a : Bor K × (Bor K × Unit {0})) (r : Ordering) (f' : F) → Called g f a r f' → (r ≡ R a.0.now a.1.0.now) × (f' ≡ f)) → IsSorted R xs
  sorted_from_sort_by {g = g} {f = f} xs up h =
      up (λ x y. is_lt (R x y)) (ranks_by o (λ x. x))
      (always_returns_same g (λ a r. is_lt r ≡ is_lt (R a.0.now a.1.0.now)) f (λ a r f' k. (ap is_lt (h a r f' k).0, (h a r f' k).1)))

  -- ---- what stands in order rises strictly

  keys_above : {X : Type 0} (x : K) (es : List (K × X)) → T (below_all R x es) → AllByRecursion (λ y. R x y ≡ Less) (keys es)
  keys_above x [] h = tt
  keys_above x (e ∷ es) h = (less_from_is_lt _ (left_true _ _ h), keys_above x es (right_true _ _ h))

  pub keys_rise : {X : Type 0} (es : List (K × X)) → T (is_sorted R es) → IsStrictlySortedBy R (keys es)
  unfolding IsStrictlySortedBy
  keys_rise [] h = tt
  keys_rise (e ∷ es) h = (keys_above e.0 es (left_true _ _ h), keys_rise es (right_true _ _ h))

  pub in_order-rises : (xs : List K) → IsStrictlySortedBy R (in_order R xs)
  in_order-rises xs = keys_rise _ (is_sorted-tabulate o s xs (λ y. Some (tt {0})))

  -- lists that have the same are the same in order
  pub same_in_order : (xs ys : List K) → ((x : K) → list_any (eq_by_cmp R x) xs ≡ list_any (eq_by_cmp R x) ys) → in_order R xs ≡ in_order R ys
  same_in_order xs ys alike = in_order_is ys (in_order R xs) (in_order-rises xs) (λ x. has-in_order x xs ∙ alike x)

  -- what a filtered list has
  pub has-filter : (p : K → Bool) (x : K) (xs : List K) → list_any (eq_by_cmp R x) (filter p xs) ≡ (p x && list_any (eq_by_cmp R x) xs)
  has-filter p x [] = go (p x)
    where
      go : (b : Bool) → false ≡ (b && false)
      go true = refl
      go false = refl
  has-filter p x (y ∷ ys) = go (eq_by_cmp R x y) refl (p y) refl (p x) refl (has-filter p x ys)
    where
      go : (c : Bool) → eq_by_cmp R x y ≡ c → (b : Bool) → p y ≡ b → (a : Bool) → p x ≡ a → list_any (eq_by_cmp R x) (filter p ys) ≡ (a && list_any (eq_by_cmp R x) ys)
          → list_any (eq_by_cmp R x) (cond b (y ∷ filter p ys) (filter p ys)) ≡ (a && (c || list_any (eq_by_cmp R x) ys))
      go true is true py true px ih = ap (λ c. c || list_any (eq_by_cmp R x) (filter p ys)) is
      go true is true py false px ih = absurd (true≢false (sym py ∙ (ap p (sym (same_is o s x y is)) ∙ px)))
      go true is false py true px ih = absurd (true≢false (sym px ∙ (ap p (same_is o s x y is) ∙ py)))
      go true is false py false px ih = ih
      go false is true py a px ih = ap (λ c. c || list_any (eq_by_cmp R x) (filter p ys)) is ∙ ih
      go false is false py a px ih = ih
