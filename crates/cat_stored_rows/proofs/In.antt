-- What stands in a list, and what is found among entries.
use Rattle.std.proofs.Common.{T, ◌≡◌, ◌⊎◌, inl, inr, Bool, true, false, cond, List, [], ◌∷◌, ◌++◌, map, refl, sym, ap, subst, ◌∙◌, is_some, unwrap_or, true≢false, Ordering, Less, Equal, Greater}
use Rattle.std.specs.declared.option.Option.{Option}
use Rattle.std.specs.declared.option.Option.TheVariants.{None, Some}
use Rattle.std.specs.Cmp.{IsTotalOrder}
use Rattle.std.specs.FinMap.{IsAntisymmetric}
use Rattle.std.specs.FinMap.Entries.{below_all, find-put, is_sorted, same_entries}
use Rattle.std.specs.List.{AllByRecursion, flat_map, list_all}
use Rattle.std.specs.Option.{option_map}
use Rattle.std.specs.Ordering.{eq_by_cmp, is_eq, is_lt, ordering_reverse}
use Rattle.cat_collections.specs.Table.{find, put, puts}
use Rattle.cat_collections.proofs.Tables.{and_first, and_second, same_is, same_self, some_or_none}

abbrev pub In : {A : Type 0} → A → List A → Type 0
In x [] = ⊥
In x (y ∷ ys) = (x ≡ y) ⊎ In x ys

-- ---- lists that are made of lists

pub in_left : {A : Type 0} (x : A) (xs ys : List A) → In x xs → In x (xs ++ ys)
in_left x [] ys h = absurd h
in_left x (y ∷ xs) ys (inl e) = inl e
in_left x (y ∷ xs) ys (inr h) = inr (in_left x xs ys h)

pub in_right : {A : Type 0} (x : A) (xs ys : List A) → In x ys → In x (xs ++ ys)
in_right x [] ys h = h
in_right x (y ∷ xs) ys h = inr (in_right x xs ys h)

pub in_either : {A : Type 0} (x : A) (xs ys : List A) → In x (xs ++ ys) → In x xs ⊎ In x ys
in_either x [] ys h = inr h
in_either x (y ∷ xs) ys (inl e) = inl (inl e)
in_either x (y ∷ xs) ys (inr h) = go (in_either x xs ys h)
  where
    go : In x xs ⊎ In x ys → In x (y ∷ xs) ⊎ In x ys
    go (inl g) = inl (inr g)
    go (inr g) = inr g

pub in_map : {A B : Type 0} (f : A → B) (x : A) (xs : List A) → In x xs → In (f x) (map f xs)
in_map f x [] h = absurd h
in_map f x (y ∷ xs) (inl e) = inl (ap f e)
in_map f x (y ∷ xs) (inr h) = inr (in_map f x xs h)

pub from_map : {A B : Type 0} (f : A → B) (y : B) (xs : List A) → In y (map f xs) → (x : A) × In x xs × (y ≡ f x)
from_map f y [] h = absurd h
from_map f y (x ∷ xs) (inl e) = (x, inl refl, e)
from_map f y (x ∷ xs) (inr h) = let g = from_map f y xs h in (g.0, inr g.1, g.2)

pub in_flat : {A B : Type 0} (f : A → List B) (x : A) (y : B) (xs : List A) → In x xs → In y (f x) → In y (flat_map f xs)
in_flat f x y [] h g = absurd h
in_flat f x y (z ∷ xs) (inl e) g = in_left y (f z) (flat_map f xs) (subst (λ w. In y (f w)) e g)
in_flat f x y (z ∷ xs) (inr h) g = in_right y (f z) (flat_map f xs) (in_flat f x y xs h g)

pub from_flat : {A B : Type 0} (f : A → List B) (y : B) (xs : List A) → In y (flat_map f xs) → (x : A) × In x xs × In y (f x)
from_flat f y [] h = absurd h
from_flat f y (x ∷ xs) h = go (in_either y (f x) (flat_map f xs) h) (from_flat f y xs)
  where
    go : In y (f x) ⊎ In y (flat_map f xs) → (In y (flat_map f xs) → (z : _) × In z xs × In y (f z)) → (z : _) × In z (x ∷ xs) × In y (f z)
    go (inl g) rest = (x, inl refl, g)
    go (inr g) rest = let k = rest g in (k.0, inr k.1, k.2)

pub all_in : {A : Type 0} (P : A → Type 0) (xs : List A) → AllByRecursion P xs → (x : A) → In x xs → P x
all_in P [] h x g = absurd g
all_in P (y ∷ xs) h x (inl e) = subst P (sym e) h.0
all_in P (y ∷ xs) h x (inr g) = all_in P xs h.1 x g

pub in_all : {A : Type 0} (P : A → Type 0) (xs : List A) → ((x : A) → In x xs → P x) → AllByRecursion P xs
in_all P [] f = tt
in_all P (x ∷ xs) f = (f x (inl refl), in_all P xs (λ y h. f y (inr h)))

-- what stands in a list passes, where all of it does
pub in_passes : {A : Type 0} (p : A → Bool) (xs : List A) → list_all p xs ≡ true → (x : A) → In x xs → p x ≡ true
in_passes p [] h x g = absurd g
in_passes p (y ∷ xs) h x (inl e) = ap p e ∙ and_first (p y) _ h
in_passes p (y ∷ xs) h x (inr g) = in_passes p xs (and_second (p y) _ h) x g

-- ---- options

pub same_some : {A : Type 0} {x y : A} → Some x ≡ Some y → x ≡ y
same_some {x = x} e = ap (λ v. unwrap_or v x) e

pub none_some : {A : Type 0} {x : A} → None ≡ Some x → ⊥
none_some e = true≢false (sym (ap is_some e))

-- two options are one where each has what the other has
pub alike : {A : Type 0} (v w : Option A) → ((x : A) → v ≡ Some x → w ≡ Some x) → ((x : A) → w ≡ Some x → v ≡ Some x) → v ≡ w
alike None None f g = refl
alike None (Some x) f g = g x refl
alike (Some x) w f g = sym (f x refl)

-- ---- entries

pub less_is : (o : Ordering) → is_lt o ≡ true → o ≡ Less
less_is Less e = refl
less_is Equal e = absurd (true≢false (sym e))
less_is Greater e = absurd (true≢false (sym e))

from_T : (b : Bool) → T b → b ≡ true
from_T true h = refl
from_T false h = absurd h

module _ {K : Type 0} {R : K → K → Ordering} (o : IsTotalOrder R) (s : IsAntisymmetric R) where
  module _ {X : Type 0} where
    pub in_found : (k : K) (m : List (K × X)) (x : X) → find R k m ≡ Some x → In (k, x) m
    in_found k [] x f = absurd (none_some f)
    in_found k (e ∷ es) x f = go (eq_by_cmp R k e.0) refl f (in_found k es x)
      where
        go : (b : Bool) → eq_by_cmp R k e.0 ≡ b → cond b (Some e.1) (find R k es) ≡ Some x → (find R k es ≡ Some x → In (k, x) es) → In (k, x) (e ∷ es)
        go true t f ih = inl (λ i. (same_is o s k e.0 t i, sym (same_some f) i))
        go false t f ih = inr (ih f)

    above : (k : K) (es : List (K × X)) → below_all R k es ≡ true → (e : K × X) → In e es → eq_by_cmp R e.0 k ≡ false
    above k [] h e g = absurd g
    above k (d ∷ es) h e (inl is) = ap is_eq (o.antisymm e.0 k ∙ ap ordering_reverse (ap (λ d. R k d.0) is ∙ less_is (R k d.0) (and_first _ _ h)))
    above k (d ∷ es) h e (inr g) = above k es (and_second (is_lt (R k d.0)) _ h) e g

    found_sorted : (m : List (K × X)) → is_sorted R m ≡ true → (e : K × X) → In e m → find R e.0 m ≡ Some e.1
    found_sorted [] h e g = absurd g
    found_sorted (d ∷ es) h e (inl is) = ap (λ b. cond b (Some d.1) (find R e.0 es)) (ap (λ k. eq_by_cmp R e.0 k) (sym (ap (λ d. d.0) is)) ∙ same_self o s e.0) ∙ ap (λ d. Some d.1) (sym is)
    found_sorted (d ∷ es) h e (inr g) =
        ap (λ b. cond b (Some d.1) (find R e.0 es)) (above d.0 es (and_first _ _ h) e g) ∙ found_sorted es (and_second (below_all R d.0 es) _ h) e g

    pub found_in : (m : List (K × X)) → T (is_sorted R m) → (k : K) (x : X) → In (k, x) m → find R k m ≡ Some x
    found_in m h k x g = found_sorted m (from_T _ h) (k, x) g

    -- entries in order are the same where what is found in either is found in the other
    pub same_table : (m n : List (K × X)) → T (is_sorted R m) → T (is_sorted R n)
        → ((k : K) (x : X) → find R k m ≡ Some x → find R k n ≡ Some x) → ((k : K) (x : X) → find R k n ≡ Some x → find R k m ≡ Some x) → m ≡ n
    same_table m n h g there back = same_entries R o s m n h g (λ k. alike (find R k m) (find R k n) (there k) (back k))

    -- ---- entries that are put in, one after the other

    pub from_puts : (es m : List (K × X)) (k : K) (x : X) → find R k (puts R es m) ≡ Some x → In (k, x) es ⊎ (find R k m ≡ Some x)
    from_puts [] m k x f = inr f
    from_puts (e ∷ es) m k x f = go (from_puts es (put R e.0 e.1 m) k x f)
      where
        at : (b : Bool) → eq_by_cmp R k e.0 ≡ b → cond b (Some e.1) (find R k m) ≡ Some x → In (k, x) (e ∷ es) ⊎ (find R k m ≡ Some x)
        at true t g = inl (inl (λ i. (same_is o s k e.0 t i, sym (same_some g) i)))
        at false t g = inr g

        go : In (k, x) es ⊎ (find R k (put R e.0 e.1 m) ≡ Some x) → In (k, x) (e ∷ es) ⊎ (find R k m ≡ Some x)
        go (inl g) = inl (inr g)
        go (inr g) = at (eq_by_cmp R k e.0) refl (sym (find-put R o k e.0 e.1 m) ∙ g)

    still_there : (es m : List (K × X)) (k : K) → is_some (find R k m) ≡ true → is_some (find R k (puts R es m)) ≡ true
    still_there [] m k h = h
    still_there (e ∷ es) m k h = still_there es (put R e.0 e.1 m) k (ap is_some (find-put R o k e.0 e.1 m) ∙ go (eq_by_cmp R k e.0))
      where
        go : (b : Bool) → is_some (cond b (Some e.1) (find R k m)) ≡ true
        go true = refl
        go false = h

    there : (es m : List (K × X)) (k : K) (x : X) → In (k, x) es → is_some (find R k (puts R es m)) ≡ true
    there [] m k x g = absurd g
    there (e ∷ es) m k x (inl is) =
        still_there es (put R e.0 e.1 m) k
        (ap is_some (find-put R o k e.0 e.1 m ∙ ap (λ b. cond b (Some e.1) (find R k m)) (ap (λ d. eq_by_cmp R k d.0) (sym is) ∙ same_self o s k)))
    there (e ∷ es) m k x (inr g) = there es (put R e.0 e.1 m) k x g

    -- at a key of an entry something is found
    pub found_in_puts : (es : List (K × X)) (k : K) (x : X) → In (k, x) es → (y : X) × (find R k (puts R es []) ≡ Some y)
    found_in_puts es k x g = some_or_none (find R k (puts R es [])) (there es [] k x g)

    pub in_puts : (es : List (K × X)) (k : K) (x : X) → In (k, x) es → (y : X) × In (k, y) (puts R es [])
    in_puts es k x g = let f = found_in_puts es k x g in (f.0, in_found k (puts R es []) f.0 f.1)

    -- where no other entry has its key, an entry is found
    pub found_puts : (es : List (K × X)) (k : K) (x : X) → ((y : X) → In (k, y) es → y ≡ x) → In (k, x) es → find R k (puts R es []) ≡ Some x
    found_puts es k x alone g = go (some_or_none (find R k (puts R es [])) (there es [] k x g))
      where
        go : (y : X) × (find R k (puts R es []) ≡ Some y) → find R k (puts R es []) ≡ Some x
        go h = at (from_puts es [] k h.0 h.1)
          where
            at : In (k, h.0) es ⊎ (None ≡ Some h.0) → find R k (puts R es []) ≡ Some x
            at (inl i) = h.1 ∙ ap Some (alone h.0 i)
            at (inr i) = absurd (none_some i)

  -- what is found where values are changed
  pub found_map : {X Y : Type 0} (f : X → Y) (m : List (K × X)) (k : K) → find R k (map (λ e. (e.0, f e.1)) m) ≡ option_map f (find R k m)
  found_map f [] k = refl
  found_map f (e ∷ es) k = go (eq_by_cmp R k e.0) (found_map f es k)
    where
      go : (b : Bool) → find R k (map (λ e. (e.0, f e.1)) es) ≡ option_map f (find R k es) → cond b (Some (f e.1)) (find R k (map (λ e. (e.0, f e.1)) es)) ≡ option_map f (cond b (Some e.1) (find R k es))
      go true ih = refl
      go false ih = ih
