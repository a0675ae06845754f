-- What is in lists that are put together, filtered or made of others.
use Rattle.std.proofs.Common.{◌≡◌, Bool, true, false, ◌||◌, ◌⊎◌, inl, inr, List, [], ◌∷◌, ◌++◌, refl, sym, ap, ◌∙◌, Ordering, is_some, unwrap_or, true≢false}
use Rattle.std.specs.Ordering.{eq_by_cmp}
use Rattle.std.specs.List.{list_any, filter, filter_map, flat_map, cons_option}
use Rattle.std.specs.declared.option.Option.{Option}
use Rattle.std.specs.declared.option.Option.TheVariants.{None, Some}
use Rattle.std.specs.Cmp.{IsTotalOrder}
use Rattle.std.specs.FinMap.{IsAntisymmetric}
use Rattle.std.proofs.lemmas.List.Folds.{list_any-append}
use Rattle.cat_collections.proofs.Tables.{same_is, same_self, or_true, and_first, and_second}
use Rattle.cat_collections.proofs.Orders.{has-filter}

either_true : (a b : Bool) → (a || b) ≡ true → (a ≡ true) ⊎ (b ≡ true)
either_true true b h = inl refl
either_true false b h = inr h

left_or : (a b : Bool) → a ≡ true → (a || b) ≡ true
left_or true b h = refl
left_or false b h = absurd (true≢false (sym h))

module _ {K : Type 0} (p : K → Bool) where
  pub any_left : (xs ys : List K) → list_any p xs ≡ true → list_any p (xs ++ ys) ≡ true
  any_left xs ys h = list_any-append p xs ys ∙ left_or _ _ h

  pub any_right : (xs ys : List K) → list_any p ys ≡ true → list_any p (xs ++ ys) ≡ true
  any_right xs ys h = list_any-append p xs ys ∙ or_true (list_any p xs) _ h

  pub any_either : (xs ys : List K) → list_any p (xs ++ ys) ≡ true → (list_any p xs ≡ true) ⊎ (list_any p ys ≡ true)
  any_either xs ys h = either_true _ _ (sym (list_any-append p xs ys) ∙ h)

module _ {K : Type 0} {R : K → K → Ordering} (o : IsTotalOrder R) (s : IsAntisymmetric R) where
  -- what is filtered passes, and was there
  pub filter_passes : (p : K → Bool) (ks : List K) (q : K) → list_any (eq_by_cmp R q) (filter p ks) ≡ true → p q ≡ true
  filter_passes p ks q h = and_first (p q) _ (sym (has-filter o s p q ks) ∙ h)

  pub filter_was : (p : K → Bool) (ks : List K) (q : K) → list_any (eq_by_cmp R q) (filter p ks) ≡ true → list_any (eq_by_cmp R q) ks ≡ true
  filter_was p ks q h = and_second (p q) _ (sym (has-filter o s p q ks) ∙ h)

-- the elements of one list, made of those of another
module _ {K J : Type 0} {R : K → K → Ordering} {S : J → J → Ordering} (o : IsTotalOrder R) (s : IsAntisymmetric R) (u : IsTotalOrder S) (v : IsAntisymmetric S) where
  pub flat_map_in : (f : K → List J) (ks : List K) (e : K) (q : J) → list_any (eq_by_cmp R e) ks ≡ true → list_any (eq_by_cmp S q) (f e) ≡ true → list_any (eq_by_cmp S q) (flat_map f ks) ≡ true
  flat_map_in f [] e q h c = absurd (true≢false (sym h))
  flat_map_in f (k ∷ ks) e q h c = go (eq_by_cmp R e k) refl h (λ h. flat_map_in f ks e q h c)
    where
      go : (b : Bool) → eq_by_cmp R e k ≡ b → (b || list_any (eq_by_cmp R e) ks) ≡ true → (list_any (eq_by_cmp R e) ks ≡ true → list_any (eq_by_cmp S q) (flat_map f ks) ≡ true)
          → list_any (eq_by_cmp S q) (f k ++ flat_map f ks) ≡ true
      go true is h ih = any_left (eq_by_cmp S q) (f k) (flat_map f ks) (ap (λ x. list_any (eq_by_cmp S q) (f x)) (sym (same_is o s e k is)) ∙ c)
      go false is h ih = any_right (eq_by_cmp S q) (f k) (flat_map f ks) (ih h)

  pub flat_map_from : (f : K → List J) (ks : List K) (q : J) → list_any (eq_by_cmp S q) (flat_map f ks) ≡ true → (e : K) × (list_any (eq_by_cmp R e) ks ≡ true) × (list_any (eq_by_cmp S q) (f e) ≡ true)
  flat_map_from f [] q h = absurd (true≢false (sym h))
  flat_map_from f (k ∷ ks) q h = go (any_either (eq_by_cmp S q) (f k) (flat_map f ks) h) (flat_map_from f ks q)
    where
      go : (list_any (eq_by_cmp S q) (f k) ≡ true) ⊎ (list_any (eq_by_cmp S q) (flat_map f ks) ≡ true)
          → (list_any (eq_by_cmp S q) (flat_map f ks) ≡ true → (e : K) × (list_any (eq_by_cmp R e) ks ≡ true) × (list_any (eq_by_cmp S q) (f e) ≡ true))
          → (e : K) × (list_any (eq_by_cmp R e) (k ∷ ks) ≡ true) × (list_any (eq_by_cmp S q) (f e) ≡ true)
      go (inl c) ih = (k, left_or (eq_by_cmp R k k) (list_any (eq_by_cmp R k) ks) (same_self o s k), c)
      go (inr c) ih = let w = ih c in (w.0, or_true (eq_by_cmp R w.0 k) _ w.1, w.2)

  -- an element that f takes to q, where there is one
  pub filter_map_in : (f : K → Option J) (ks : List K) (k : K) (q : J) → list_any (eq_by_cmp R k) ks ≡ true → f k ≡ Some q → list_any (eq_by_cmp S q) (filter_map f ks) ≡ true
  filter_map_in f [] k q h e = absurd (true≢false (sym h))
  filter_map_in f (x ∷ xs) k q h e = go (eq_by_cmp R k x) refl h (λ h. filter_map_in f xs k q h e)
    where
      here : (w : Option J) → w ≡ Some q → list_any (eq_by_cmp S q) (cons_option w (filter_map f xs)) ≡ true
      here None g = absurd (true≢false (sym (ap is_some g)))
      here (Some y) g = left_or (eq_by_cmp S q y) _ (ap (eq_by_cmp S q) (ap (λ v. unwrap_or v y) g) ∙ same_self u v q)

      there : (w : Option J) → list_any (eq_by_cmp S q) (filter_map f xs) ≡ true → list_any (eq_by_cmp S q) (cons_option w (filter_map f xs)) ≡ true
      there None h = h
      there (Some y) h = or_true (eq_by_cmp S q y) _ h

      go : (b : Bool) → eq_by_cmp R k x ≡ b → (b || list_any (eq_by_cmp R k) xs) ≡ true → (list_any (eq_by_cmp R k) xs ≡ true → list_any (eq_by_cmp S q) (filter_map f xs) ≡ true)
          → list_any (eq_by_cmp S q) (cons_option (f x) (filter_map f xs)) ≡ true
      go true is h ih = here (f x) (ap f (sym (same_is o s k x is)) ∙ e)
      go false is h ih = there (f x) (ih h)

  pub filter_map_from : (f : K → Option J) (ks : List K) (q : J) → list_any (eq_by_cmp S q) (filter_map f ks) ≡ true → (k : K) × (list_any (eq_by_cmp R k) ks ≡ true) × (f k ≡ Some q)
  filter_map_from f [] q h = absurd (true≢false (sym h))
  filter_map_from f (x ∷ xs) q h = go (f x) refl h (filter_map_from f xs q)
    where
      later : (list_any (eq_by_cmp S q) (filter_map f xs) ≡ true → (k : K) × (list_any (eq_by_cmp R k) xs ≡ true) × (f k ≡ Some q)) → list_any (eq_by_cmp S q) (filter_map f xs) ≡ true
          → (k : K) × (list_any (eq_by_cmp R k) (x ∷ xs) ≡ true) × (f k ≡ Some q)
      later ih h = let w = ih h in (w.0, or_true (eq_by_cmp R w.0 x) _ w.1, w.2)

      hit : (y : J) → f x ≡ Some y → (c : Bool) → eq_by_cmp S q y ≡ c → (c || list_any (eq_by_cmp S q) (filter_map f xs)) ≡ true
          → (list_any (eq_by_cmp S q) (filter_map f xs) ≡ true → (k : K) × (list_any (eq_by_cmp R k) xs ≡ true) × (f k ≡ Some q)) → (k : K) × (list_any (eq_by_cmp R k) (x ∷ xs) ≡ true) × (f k ≡ Some q)
      hit y e true is h ih = (x, left_or (eq_by_cmp R x x) _ (same_self o s x), e ∙ ap Some (sym (same_is u v q y is)))
      hit y e false is h ih = later ih h

      go : (w : Option J) → f x ≡ w → list_any (eq_by_cmp S q) (cons_option w (filter_map f xs)) ≡ true
          → (list_any (eq_by_cmp S q) (filter_map f xs) ≡ true → (k : K) × (list_any (eq_by_cmp R k) xs ≡ true) × (f k ≡ Some q)) → (k : K) × (list_any (eq_by_cmp R k) (x ∷ xs) ≡ true) × (f k ≡ Some q)
      go None e h ih = later ih h
      go (Some y) e h ih = hit y e (eq_by_cmp S q y) refl h ih
