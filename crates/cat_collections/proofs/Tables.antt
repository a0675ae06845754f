-- What `find` gives on maps that are tabulated.
use Rattle.std.proofs.Common.{T, ◌≡◌, Bool, true, false, cond, not, ◌&&◌, ◌||◌, ◌⊎◌, inl, inr, List, [], ◌∷◌, ◌++◌, refl, sym, ap, subst, ◌∙◌, Ordering, is_some, unwrap_or, true≢false, ◌<◌, arith, suc, length}
use Rattle.std.specs.declared.option.Option.{Option}
use Rattle.std.specs.declared.option.Option.TheVariants.{None, Some}
use Rattle.std.specs.Option.{option_and_then}
use Rattle.std.specs.Ordering.{eq_by_cmp, is_eq}
use Rattle.std.specs.List.{list_any, filter}
use Rattle.std.specs.Cmp.{IsTotalOrder, Equal-is, tied_itself}
use Rattle.std.specs.FinMap.{IsAntisymmetric}
use Rattle.std.specs.FinMap.Entries.{find-put, is_some-find, is_sorted, is_sorted-put, same_entries}
use Rattle.cat_collections.specs.Table.{keys, find, put, put_some, tabulate, over, first, place}
pub use Rattle.cat_collections.specs.Table.{text_total, text_antisymmetric}

pub none_or_some : {A : Type 0} (x : Option A) → is_some x ≡ false → x ≡ None
none_or_some None e = refl
none_or_some (Some x) e = absurd (true≢false e)

pub some_or_none : {A : Type 0} (x : Option A) → is_some x ≡ true → (y : A) × (x ≡ Some y)
some_or_none None e = absurd (true≢false (sym e))
some_or_none (Some x) e = (x, refl)

pub cond_none : {A : Type 0} (b : Bool) → cond {A = Option A} b None None ≡ None
cond_none true = refl
cond_none false = refl

pub and_first : (a b : Bool) → (a && b) ≡ true → a ≡ true
and_first true b e = refl
and_first false b e = e

pub and_second : (a b : Bool) → (a && b) ≡ true → b ≡ true
and_second true b e = e
and_second false b e = absurd (true≢false (sym e))

pub or_true : (a b : Bool) → b ≡ true → (a || b) ≡ true
or_true true b e = refl
or_true false b e = e

pub or_false_first : (a b : Bool) → (a || b) ≡ false → a ≡ false
or_false_first true b e = e
or_false_first false b e = refl

pub or_false_second : (a b : Bool) → (a || b) ≡ false → b ≡ false
or_false_second true b e = absurd (true≢false e)
or_false_second false b e = e

pub not_true : (a : Bool) → not a ≡ true → a ≡ false
not_true true e = sym e
not_true false e = refl

pub list_any-append : {K : Type 0} (p : K → Bool) (xs ys : List K) → list_any p xs ≡ true ⊎ list_any p ys ≡ true → list_any p (xs ++ ys) ≡ true
list_any-append p [] ys (inl e) = absurd (true≢false (sym e))
list_any-append p [] ys (inr e) = e
list_any-append p (x ∷ xs) ys (inr e) = or_true (p x) _ (list_any-append p xs ys (inr e))
list_any-append p (x ∷ xs) ys (inl e) = go (p x) e (list_any-append p xs ys)
  where
    go : (b : Bool) → (b || list_any p xs) ≡ true → (list_any p xs ≡ true ⊎ list_any p ys ≡ true → list_any p (xs ++ ys) ≡ true) → (b || list_any p (xs ++ ys)) ≡ true
    go true e ih = refl
    go false e ih = ih (inl e)

module _ {K : Type 0} {R : K → K → Ordering} (o : IsTotalOrder R) (s : IsAntisymmetric R) where
  pub same_is : (x y : K) → eq_by_cmp R x y ≡ true → x ≡ y
  same_is x y e = s x y ((Equal-is (R x y)).0 e)

  pub same_self : (x : K) → eq_by_cmp R x x ≡ true
  same_self x = ap is_eq (tied_itself o x)

  pub first_some : (p : K → Bool) (ks : List K) (k : K) → first p ks ≡ Some k → p k ≡ true
  first_some p [] k e = absurd (true≢false (sym (ap is_some e)))
  first_some p (x ∷ xs) k e = go (p x) refl e (first_some p xs k)
    where
      go : (b : Bool) → p x ≡ b → cond b (Some x) (first p xs) ≡ Some k → (first p xs ≡ Some k → p k ≡ true) → p k ≡ true
      go true h e ih = subst (λ y. p y ≡ true) (ap (λ v. unwrap_or v x) e) h
      go false h e ih = ih e

  pub first_in : (p : K → Bool) (ks : List K) (k : K) → first p ks ≡ Some k → list_any (eq_by_cmp R k) ks ≡ true
  first_in p [] k e = absurd (true≢false (sym (ap is_some e)))
  first_in p (x ∷ xs) k e = go (p x) e (first_in p xs k)
    where
      go : (b : Bool) → cond b (Some x) (first p xs) ≡ Some k → (first p xs ≡ Some k → list_any (eq_by_cmp R k) xs ≡ true) → (eq_by_cmp R k x || list_any (eq_by_cmp R k) xs) ≡ true
      go true e ih = ap (λ b. b || list_any (eq_by_cmp R k) xs) (ap (λ v. eq_by_cmp R (unwrap_or v x) x) (sym e) ∙ same_self x)
      go false e ih = or_true (eq_by_cmp R k x) _ (ih e)

  pub first_none : (p : K → Bool) (ks : List K) → first p ks ≡ None → (k : K) → list_any (eq_by_cmp R k) ks ≡ true → p k ≡ false
  first_none p [] e k h = absurd (true≢false (sym h))
  first_none p (x ∷ xs) e k h = go (p x) refl e (eq_by_cmp R k x) refl h (λ e. first_none p xs e k)
    where
      go : (b : Bool) → p x ≡ b → cond b (Some x) (first p xs) ≡ None → (c : Bool) → eq_by_cmp R k x ≡ c → (c || list_any (eq_by_cmp R k) xs) ≡ true
          → (first p xs ≡ None → list_any (eq_by_cmp R k) xs ≡ true → p k ≡ false) → p k ≡ false
      go true px e c kx h ih = absurd (true≢false (ap is_some e))
      go false px e true kx h ih = ap p (same_is k x kx) ∙ px
      go false px e false kx h ih = ih e h

  module _ {X : Type 0} where
    pub found_key : (q : K) (m : List (K × X)) (x : X) → find R q m ≡ Some x → list_any (eq_by_cmp R q) (keys m) ≡ true
    found_key q m x e = sym (is_some-find R q m) ∙ ap is_some e

    pub no_key : (q : K) (m : List (K × X)) → list_any (eq_by_cmp R q) (keys m) ≡ false → find R q m ≡ None
    no_key q m e = none_or_some (find R q m) (is_some-find R q m ∙ e)

    tabulated : (q k : K) (ks : List K) (f : K → Option X) → find R q (tabulate R ks f) ≡ cond (list_any (eq_by_cmp R q) ks) (f q) None
        → (v : Option X) → f k ≡ v → (b : Bool) → eq_by_cmp R q k ≡ b → find R q (put_some R k v (tabulate R ks f)) ≡ cond (b || list_any (eq_by_cmp R q) ks) (f q) None
    tabulated q k ks f rest None e true h =
        let fq : f q ≡ None = ap f (same_is q k h) ∙ e in
        rest ∙ ap (λ v. cond (list_any (eq_by_cmp R q) ks) v None) fq ∙ cond_none _ ∙ sym fq
    tabulated q k ks f rest None e false h = rest
    tabulated q k ks f rest (Some v) e true h = find-put R o q k v (tabulate R ks f) ∙ ap (λ b. cond b (Some v) (find R q (tabulate R ks f))) h ∙ sym (ap f (same_is q k h) ∙ e)
    tabulated q k ks f rest (Some v) e false h = find-put R o q k v (tabulate R ks f) ∙ ap (λ b. cond b (Some v) (find R q (tabulate R ks f))) h ∙ rest

    pub find-tabulate : (q : K) (ks : List K) (f : K → Option X) → find R q (tabulate R ks f) ≡ cond (list_any (eq_by_cmp R q) ks) (f q) None
    find-tabulate q [] f = refl
    find-tabulate q (k ∷ ks) f = tabulated q k ks f (find-tabulate q ks f) (f k) refl (eq_by_cmp R q k) refl

    -- where the keys are all those at which f has a value
    pub find-tabulate_all : (q : K) (ks : List K) (f : K → Option X) → (list_any (eq_by_cmp R q) ks ≡ false → f q ≡ None) → find R q (tabulate R ks f) ≡ f q
    find-tabulate_all q ks f all = find-tabulate q ks f ∙ go _ refl
      where
        go : (b : Bool) → list_any (eq_by_cmp R q) ks ≡ b → cond b (f q) None ≡ f q
        go true e = refl
        go false e = sym (all e)

    pub find-put_same : (k : K) (v : X) (m : List (K × X)) → find R k (put R k v m) ≡ Some v
    find-put_same k v m = find-put R o k k v m ∙ ap (λ b. cond b (Some v) (find R k m)) (same_self k)

    pub find-put_other : (q k : K) (v : X) (m : List (K × X)) → eq_by_cmp R q k ≡ false → find R q (put R k v m) ≡ find R q m
    find-put_other q k v m e = find-put R o q k v m ∙ ap (λ b. cond b (Some v) (find R q m)) e

  pub find-over : {X Y : Type 0} (q : K) (m : List (K × X)) (f : K → X → Option Y) → find R q (over R m f) ≡ option_and_then (f q) (find R q m)
  find-over q m f = find-tabulate_all q (keys m) (λ k. option_and_then (f k) (find R k m)) (λ e. ap (option_and_then (f q)) (no_key q m e))

  is_sorted-put_some : {X : Type 0} (k : K) (v : Option X) (m : List (K × X)) → T (is_sorted R m) → T (is_sorted R (put_some R k v m))
  is_sorted-put_some k None m h = h
  is_sorted-put_some k (Some v) m h = is_sorted-put R o k v m h

  pub is_sorted-tabulate : {X : Type 0} (ks : List K) (f : K → Option X) → T (is_sorted R (tabulate R ks f))
  is_sorted-tabulate [] f = tt
  is_sorted-tabulate (k ∷ ks) f = is_sorted-put_some k (f k) (tabulate R ks f) (is_sorted-tabulate ks f)

  -- two maps that are tabulated are one where they answer alike
  pub same_tabulated : {X : Type 0} (ks js : List K) (f g : K → Option X) → ((q : K) → find R q (tabulate R ks f) ≡ find R q (tabulate R js g)) → tabulate R ks f ≡ tabulate R js g
  same_tabulated ks js f g same = same_entries R o s (tabulate R ks f) (tabulate R js g) (is_sorted-tabulate ks f) (is_sorted-tabulate js g) same

  pub place-lt : (k : K) (ks : List K) → list_any (eq_by_cmp R k) ks ≡ true → place R k ks < length ks
  place-lt k [] h = absurd (true≢false (sym h))
  place-lt k (x ∷ xs) h = go (eq_by_cmp R k x) h (place-lt k xs)
    where
      go : (b : Bool) → (b || list_any (eq_by_cmp R k) xs) ≡ true → (list_any (eq_by_cmp R k) xs ≡ true → place R k xs < length xs) → cond b 0 (suc (place R k xs)) < suc (length xs)
      go true h ih = omega arith
      go false h ih = let l = ih h in omega arith

  pub place_apart : (j k : K) (ks : List K) → list_any (eq_by_cmp R j) ks ≡ true → list_any (eq_by_cmp R k) ks ≡ true → place R j ks ≡ place R k ks → j ≡ k
  place_apart j k [] h g e = absurd (true≢false (sym h))
  place_apart j k (x ∷ xs) h g e = go (eq_by_cmp R j x) refl h (eq_by_cmp R k x) refl g e (place_apart j k xs)
    where
      go : (b : Bool) → eq_by_cmp R j x ≡ b → (b || list_any (eq_by_cmp R j) xs) ≡ true → (c : Bool) → eq_by_cmp R k x ≡ c → (c || list_any (eq_by_cmp R k) xs) ≡ true
          → cond b 0 (suc (place R j xs)) ≡ cond c 0 (suc (place R k xs)) → (list_any (eq_by_cmp R j) xs ≡ true → list_any (eq_by_cmp R k) xs ≡ true → place R j xs ≡ place R k xs → j ≡ k) → j ≡ k
      go true is h true as' g e ih = same_is j x is ∙ sym (same_is k x as')
      go true is h false as' g e ih = absurd (omega arith)
      go false is h true as' g e ih = absurd (omega arith)
      go false is h false as' g e ih = ih h g (omega arith)

  pub any_filter : (p : K → Bool) (ks : List K) (q : K) → list_any (eq_by_cmp R q) ks ≡ true → p q ≡ true → list_any (eq_by_cmp R q) (filter p ks) ≡ true
  any_filter p [] q h e = absurd (true≢false (sym h))
  any_filter p (k ∷ ks) q h e = go (eq_by_cmp R q k) refl h (p k) refl (λ h. any_filter p ks q h e)
    where
      go : (c : Bool) → eq_by_cmp R q k ≡ c → (c || list_any (eq_by_cmp R q) ks) ≡ true → (b : Bool) → p k ≡ b → (list_any (eq_by_cmp R q) ks ≡ true → list_any (eq_by_cmp R q) (filter p ks) ≡ true)
          → list_any (eq_by_cmp R q) (cond b (k ∷ filter p ks) (filter p ks)) ≡ true
      go true is h true pk ih = ap (λ c. c || list_any (eq_by_cmp R q) (filter p ks)) is
      go true is h false pk ih = absurd (true≢false (sym (ap p (sym (same_is q k is)) ∙ e) ∙ pk))
      go false is h true pk ih = or_true (eq_by_cmp R q k) _ (ih h)
      go false is h false pk ih = ih h
