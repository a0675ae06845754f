-- The order of documents parted: those with each value, and those without one.
use Rattle.std.proofs.Common.{◌≡◌, ℕ, Bool, true, false, cond, not, ◌&&◌, ◌||◌, List, [], ◌∷◌, ◌++◌, Option, Some, None, Ordering, Less, Equal, Greater, refl, sym, ap, ◌∙◌, true≢false}
use Rattle.std.specs.Prelude.{is_some}
use Rattle.std.specs.List.{filter, AllByRecursion, list_any}
use Rattle.std.specs.Ordering.{is_lt, is_gt, is_eq, ordering_reverse}
use Rattle.std.specs.FinMap.Entries.{by_order}
use Rattle.std.specs.Cmp.{tied_itself}
use Rattle.cat_collections.specs.Table.{text_cmp, text_total, text_antisymmetric, same_text}
use Rattle.cat_pages.specs.Page.{Ranked, place_of, comes_before, inserted, in_page_order}
use Rattle.cat_pages.specs.Walked.{is_behind, with_value, without_value, rising, falling}

-- ---- what holds of each

all_inserted : (Q : Ranked → Type 0) (f : Bool) (r : Ranked) (xs : List Ranked) → Q r → AllByRecursion Q xs → AllByRecursion Q (inserted f r xs)
all_inserted Q f r [] q h = (q, tt)
all_inserted Q f r (x ∷ xs) q h = go (comes_before f (place_of r) (place_of x)) (all_inserted Q f r xs q h.1)
  where
    go : (b : Bool) → AllByRecursion Q (inserted f r xs) → AllByRecursion Q (cond b (r ∷ x ∷ xs) (x ∷ inserted f r xs))
    go true i = (q, h)
    go false i = (h.0, i)

all_ordered : (Q : Ranked → Type 0) (f : Bool) (xs : List Ranked) → AllByRecursion Q xs → AllByRecursion Q (in_page_order f xs)
all_ordered Q f [] h = tt
all_ordered Q f (x ∷ xs) h = all_inserted Q f x (in_page_order f xs) h.0 (all_ordered Q f xs h.1)

pub all_passing : {X : Type 0} (p : X → Bool) (xs : List X) → AllByRecursion (λ x. p x ≡ true) (filter p xs)
all_passing p [] = tt
all_passing p (x ∷ xs) = go (p x) refl (all_passing p xs)
  where
    go : (b : Bool) → p x ≡ b → AllByRecursion (λ y. p y ≡ true) (filter p xs) → AllByRecursion (λ y. p y ≡ true) (cond b (x ∷ filter p xs) (filter p xs))
    go true e i = (e, i)
    go false e i = i

pub all_kept : {X : Type 0} (Q : X → Type 0) (p : X → Bool) (xs : List X) → AllByRecursion Q xs → AllByRecursion Q (filter p xs)
all_kept Q p [] h = tt
all_kept Q p (x ∷ xs) h = go (p x) (all_kept Q p xs h.1)
  where
    go : (b : Bool) → AllByRecursion Q (filter p xs) → AllByRecursion Q (cond b (x ∷ filter p xs) (filter p xs))
    go true i = (h.0, i)
    go false i = i

pub all_from : {X : Type 0} (P Q : X → Type 0) (xs : List X) → ((x : X) → P x → Q x) → AllByRecursion P xs → AllByRecursion Q xs
all_from P Q [] g h = tt
all_from P Q (x ∷ xs) g h = (g x h.0, all_from P Q xs g h.1)

pub both_hold : {X : Type 0} (P Q : X → Type 0) (xs : List X) → AllByRecursion P xs → AllByRecursion Q xs → AllByRecursion (λ x. P x × Q x) xs
both_hold P Q [] h k = tt
both_hold P Q (x ∷ xs) h k = ((h.0, k.0), both_hold P Q xs h.1 k.1)

-- tests that agree keep the same
pub same_kept : {X : Type 0} (p q : X → Bool) (xs : List X) → AllByRecursion (λ x. p x ≡ q x) xs → filter p xs ≡ filter q xs
same_kept p q [] h = refl
same_kept p q (x ∷ xs) h = (λ i. cond (h.0 i) (x ∷ same_kept p q xs h.1 i) (same_kept p q xs h.1 i))

pub all_any : {X : Type 0} (P : X → Type 0) (xs : List X) → ((x : X) → P x) → AllByRecursion P xs
all_any P [] g = tt
all_any P (x ∷ xs) g = (g x, all_any P xs g)

pub kept_twice : {X : Type 0} (p q : X → Bool) (xs : List X) → filter q (filter p xs) ≡ filter (λ x. p x && q x) xs
kept_twice p q [] = refl
kept_twice p q (x ∷ xs) = go (p x) (q x) (kept_twice p q xs)
  where
    go : (a b : Bool) → filter q (filter p xs) ≡ filter (λ y. p y && q y) xs → filter q (cond a (x ∷ filter p xs) (filter p xs)) ≡ cond (a && q x) (x ∷ filter (λ y. p y && q y) xs) (filter (λ y. p y && q y) xs)
    go true b i = ap (λ l. cond (q x) (x ∷ l) l) i
    go false b i = i

-- ---- two parts, of which one comes before the other

negated : (b : Bool) → not b ≡ true → b ≡ false
negated true n = sym n
negated false n = refl

module _ (f : Bool) where
  first_part : (r : Ranked) (xs ys : List Ranked) → AllByRecursion (λ y. comes_before f (place_of r) (place_of y) ≡ true) ys → inserted f r (xs ++ ys) ≡ inserted f r xs ++ ys
  first_part r [] [] h = refl
  first_part r [] (y ∷ ys) h = ap (λ b. cond b (r ∷ y ∷ ys) (y ∷ inserted f r ys)) h.0
  first_part r (x ∷ xs) ys h = go (comes_before f (place_of r) (place_of x)) (first_part r xs ys h)
    where
      go : (b : Bool) → inserted f r (xs ++ ys) ≡ inserted f r xs ++ ys → cond b (r ∷ x ∷ xs ++ ys) (x ∷ inserted f r (xs ++ ys)) ≡ cond b (r ∷ x ∷ xs) (x ∷ inserted f r xs) ++ ys
      go true i = refl
      go false i = ap (λ l. x ∷ l) i

  second_part : (r : Ranked) (xs ys : List Ranked) → AllByRecursion (λ x. comes_before f (place_of r) (place_of x) ≡ false) xs → inserted f r (xs ++ ys) ≡ xs ++ inserted f r ys
  second_part r [] ys h = refl
  second_part r (x ∷ xs) ys h =
      ap (λ b. cond b (r ∷ x ∷ xs ++ ys) (x ∷ inserted f r (xs ++ ys))) h.0 ∙ ap (λ l. x ∷ l) (second_part r xs ys h.1)

  -- each of those that pass comes before each of the others
  pub parted : (p : Ranked → Bool) → ((x y : Ranked) → p x ≡ true → p y ≡ false → (comes_before f (place_of x) (place_of y) ≡ true) × (comes_before f (place_of y) (place_of x) ≡ false))
      → (xs : List Ranked) → in_page_order f xs ≡ in_page_order f (filter p xs) ++ in_page_order f (filter (λ x. not (p x)) xs)
  parted p apart [] = refl
  parted p apart (x ∷ xs) = ap (inserted f x) (parted p apart xs) ∙ go (p x) refl
    where
      firsts : List Ranked
      firsts = in_page_order f (filter p xs)

      others : List Ranked
      others = in_page_order f (filter (λ y. not (p y)) xs)

      go : (b : Bool) → p x ≡ b → inserted f x (firsts ++ others) ≡ in_page_order f (cond b (x ∷ filter p xs) (filter p xs)) ++ in_page_order f (cond (not b) (x ∷ filter (λ y. not (p y)) xs) (filter (λ y. not (p y)) xs))
      go true e =
          first_part x firsts others
          (all_ordered (λ y. comes_before f (place_of x) (place_of y) ≡ true) f (filter (λ y. not (p y)) xs)
          (all_from (λ y. not (p y) ≡ true) (λ y. comes_before f (place_of x) (place_of y) ≡ true) (filter (λ y. not (p y)) xs) (λ y n. (apart x y e (negated (p y) n)).0)
          (all_passing (λ y. not (p y)) xs)))
      go false e =
          second_part x firsts others
          (all_ordered (λ y. comes_before f (place_of x) (place_of y) ≡ false) f (filter p xs)
          (all_from (λ y. p y ≡ true) (λ y. comes_before f (place_of x) (place_of y) ≡ false) (filter p xs) (λ y n. (apart y x n e).1)
          (all_passing p xs)))

-- ---- documents with one value

-- the references rise
abbrev pub InOrder : List Ranked → Type 0
InOrder [] = Unit {0}
InOrder (x ∷ xs) = AllByRecursion (λ y. text_cmp x.1.0 y.1.0 ≡ Less) xs × InOrder xs

pub kept_in_order : (p : Ranked → Bool) (xs : List Ranked) → InOrder xs → InOrder (filter p xs)
kept_in_order p [] h = tt
kept_in_order p (x ∷ xs) h = go (p x) (kept_in_order p xs h.1)
  where
    go : (b : Bool) → InOrder (filter p xs) → InOrder (cond b (x ∷ filter p xs) (filter p xs))
    go true i = (all_kept (λ y. text_cmp x.1.0 y.1.0 ≡ Less) p xs h.0, i)
    go false i = i

-- those with one value are in the order of their references
alike : (f : Bool) (v : Option (List ℕ)) (xs : List Ranked) → AllByRecursion (λ x. x.0 ≡ v) xs → InOrder xs → in_page_order f xs ≡ xs
alike f v [] h i = refl
alike f v (x ∷ []) h i = refl
alike f v (x ∷ y ∷ ys) h i =
    ap (inserted f x) (alike f v (y ∷ ys) h.1 i.1)
    ∙ ap (λ b. cond b (x ∷ y ∷ ys) (y ∷ inserted f x ys)) (ap (λ u. comes_before f (u, x.1.0) (y.0, y.1.0)) h.0 ∙ ap (λ u. comes_before f (v, x.1.0) (u, y.1.0)) h.1.0 ∙ by_reference v)
  where
    by_reference : (u : Option (List ℕ)) → comes_before f (u, x.1.0) (u, y.1.0) ≡ true
    by_reference None = ap is_lt i.0.0
    by_reference (Some w) = ap (λ o. by_order o (not f) (is_lt (text_cmp x.1.0 y.1.0)) f) (tied_itself text_total w) ∙ ap is_lt i.0.0

-- ---- the values one after the other

less_is : (o : Ordering) → is_lt o ≡ true → o ≡ Less
less_is Less e = refl
less_is Equal e = absurd (true≢false (sym e))
less_is Greater e = absurd (true≢false (sym e))

-- the value is at most this, with what stands before it
abbrev upto : List ℕ → Option (List ℕ) → Bool
upto b None = false
upto b (Some v) = not (is_gt (text_cmp (61 ∷ v) b))

-- the value is above this
abbrev over : List ℕ → Option (List ℕ) → Bool
over b None = false
over b (Some v) = is_gt (text_cmp (61 ∷ v) b)

under_then_over : (x y z : List ℕ) → is_gt (text_cmp x z) ≡ false → is_gt (text_cmp y z) ≡ true → text_cmp x y ≡ Less
under_then_over x y z h k = go (text_cmp x z) (text_cmp y z) refl refl h k
  where
    go : (o p : Ordering) → text_cmp x z ≡ o → text_cmp y z ≡ p → is_gt o ≡ false → is_gt p ≡ true → text_cmp x y ≡ Less
    go o Less e g h k = absurd (true≢false (sym k))
    go o Equal e g h k = absurd (true≢false (sym k))
    go Less Greater e g h k = text_total.trans x z y e (text_total.antisymm z y ∙ ap ordering_reverse g)
    go Equal Greater e g h k = text_total.congr x z y e ∙ text_total.antisymm z y ∙ ap ordering_reverse g
    go Greater Greater e g h k = absurd (true≢false h)

rises : (x y : Ranked) (b : List ℕ) → upto b x.0 ≡ true → upto b y.0 ≡ false → (comes_before false (place_of x) (place_of y) ≡ true) × (comes_before false (place_of y) (place_of x) ≡ false)
rises (None, p) y b h k = absurd (true≢false (sym h))
rises (Some v, p) (None, q) b h k = (refl, refl)
rises (Some v, p) (Some w, q) b h k =
    let below : text_cmp v w ≡ Less = under_then_over (61 ∷ v) (61 ∷ w) b (turned _ h) (turned_back _ k) in (
      ap (λ o. by_order o true (is_lt (text_cmp p.0 q.0)) false) below,
      ap (λ o. by_order o true (is_lt (text_cmp q.0 p.0)) false) (text_total.antisymm w v ∙ ap ordering_reverse below),
    )
  where
    turned : (a : Bool) → not a ≡ true → a ≡ false
    turned true e = sym e
    turned false e = refl

    turned_back : (a : Bool) → not a ≡ false → a ≡ true
    turned_back true e = refl
    turned_back false e = sym e

falls : (x y : Ranked) (b : List ℕ) → over b x.0 ≡ true → over b y.0 ≡ false → (comes_before true (place_of x) (place_of y) ≡ true) × (comes_before true (place_of y) (place_of x) ≡ false)
falls (None, p) y b h k = absurd (true≢false (sym h))
falls (Some v, p) (None, q) b h k = (refl, refl)
falls (Some v, p) (Some w, q) b h k =
    let below : text_cmp w v ≡ Less = under_then_over (61 ∷ w) (61 ∷ v) b k h in (
      ap (λ o. by_order o false (is_lt (text_cmp p.0 q.0)) true) (text_total.antisymm v w ∙ ap ordering_reverse below),
      ap (λ o. by_order o false (is_lt (text_cmp q.0 p.0)) true) below,
    )

-- the texts rise
abbrev pub Rise : List (List ℕ) → Type 0
Rise [] = Unit {0}
Rise (b ∷ bs) = AllByRecursion (λ c. text_cmp b c ≡ Less) bs × Rise bs

-- the value stands among the texts
abbrev pub among : List (List ℕ) → Ranked → Bool
among bs r = list_any (λ b. is_behind b r.0) bs

pub is_text : (x y : List ℕ) → same_text x y ≡ true → x ≡ y
is_text x y e = text_antisymmetric x y (tied (text_cmp x y) e)
  where
    tied : (o : Ordering) → is_eq o ≡ true → o ≡ Equal
    tied Less e = absurd (true≢false (sym e))
    tied Equal e = refl
    tied Greater e = absurd (true≢false (sym e))

-- a value among texts that are above this one is above it
among_above : (b : List ℕ) (bs : List (List ℕ)) (r : Ranked) → AllByRecursion (λ c. text_cmp b c ≡ Less) bs → among bs r ≡ true → (over b r.0 ≡ true) × (is_behind b r.0 ≡ false) × (upto b r.0 ≡ false)
among_above b [] r h k = absurd (true≢false (sym k))
among_above b (c ∷ cs) (None, p) h k = among_above b cs (None, p) h.1 k
among_above b (c ∷ cs) (Some v, p) h k = go (same_text c (61 ∷ v)) refl k (λ e. among_above b cs (Some v, p) h.1 e)
  where
    above : text_cmp b (61 ∷ v) ≡ Less → (over b (Some v) ≡ true) × (is_behind b (Some v) ≡ false) × (upto b (Some v) ≡ false)
    above l = (ap is_gt (text_total.antisymm (61 ∷ v) b ∙ ap ordering_reverse l), ap is_eq l, ap (λ o. not (is_gt o)) (text_total.antisymm (61 ∷ v) b ∙ ap ordering_reverse l))

    go : (t : Bool) → same_text c (61 ∷ v) ≡ t → (t || among cs (Some v, p)) ≡ true
        → (among cs (Some v, p) ≡ true → (over b (Some v) ≡ true) × (is_behind b (Some v) ≡ false) × (upto b (Some v) ≡ false))
        → (over b (Some v) ≡ true) × (is_behind b (Some v) ≡ false) × (upto b (Some v) ≡ false)
    go true e k later = above (ap (text_cmp b) (sym (is_text c (61 ∷ v) e)) ∙ h.0)
    go false e k later = later k

-- a value that stands here is neither above nor below
here : (b : List ℕ) (r : Ranked) → is_behind b r.0 ≡ true → (over b r.0 ≡ false) × (upto b r.0 ≡ true)
here b (None, p) h = absurd (true≢false (sym h))
here b (Some v, p) h =
    let same : text_cmp (61 ∷ v) b ≡ Equal = ap (λ x. text_cmp x b) (sym (is_text b (61 ∷ v) h)) ∙ tied_itself text_total b in
    (ap is_gt same, ap (λ o. not (is_gt o)) same)

-- of documents with values among these, those with the first value are those up to it, and no others
agree : (b : List ℕ) (bs : List (List ℕ)) (r : Ranked) → AllByRecursion (λ c. text_cmp b c ≡ Less) bs → among (b ∷ bs) r ≡ true
    → (upto b r.0 ≡ is_behind b r.0) × (over b r.0 ≡ not (is_behind b r.0)) × (not (is_behind b r.0) ≡ true → among bs r ≡ true)
agree b bs r h k = go (is_behind b r.0) refl k
  where
    go : (t : Bool) → is_behind b r.0 ≡ t → (t || among bs r) ≡ true → (upto b r.0 ≡ is_behind b r.0) × (over b r.0 ≡ not (is_behind b r.0)) × (not (is_behind b r.0) ≡ true → among bs r ≡ true)
    go true e k = ((here b r e).1 ∙ sym e, (here b r e).0 ∙ ap not (sym e), λ n. absurd (true≢false (sym n ∙ ap not e)))
    go false e k = let all = among_above b bs r h k in (all.2 ∙ sym e, all.0 ∙ ap not (sym e), λ n. k)

-- the first value, and the others
others : List ℕ → List Ranked → List Ranked
others b rs = filter (λ r. not (is_behind b r.0)) rs

pub behind_is : (b : List ℕ) (o : Option (List ℕ)) → is_behind b o ≡ true → (v : List ℕ) × ((o ≡ Some v) × (b ≡ 61 ∷ v))
behind_is b None h = absurd (true≢false (sym h))
behind_is b (Some v) h = (v, (refl, is_text b (61 ∷ v) h))

-- a text behind the key as a value
value_behind : List ℕ → Option (List ℕ)
value_behind [] = None
value_behind (c ∷ v) = Some v

one_value : (b : List ℕ) (o : Option (List ℕ)) → is_behind b o ≡ true → o ≡ value_behind b
unfolding value_behind
one_value b o h = let found = behind_is b o h in found.1.0 ∙ ap value_behind (sym found.1.1)

with_value_in_order : (f : Bool) (b : List ℕ) (rs : List Ranked) → InOrder rs → in_page_order f (with_value b rs) ≡ with_value b rs
with_value_in_order f b rs i =
    alike f (value_behind b) (with_value b rs)
    (all_from (λ (r : Ranked). is_behind b r.0 ≡ true) (λ r. r.0 ≡ value_behind b) (with_value b rs) (λ r h. one_value b r.0 h) (all_passing (λ (r : Ranked). is_behind b r.0) rs))
    (kept_in_order (λ r. is_behind b r.0) rs i)

-- those with a higher value are the same without those with this one
later_value : (b c : List ℕ) (rs : List Ranked) → text_cmp b c ≡ Less → with_value c (others b rs) ≡ with_value c rs
unfolding others
later_value b c rs l =
    kept_twice (λ (r : Ranked). not (is_behind b r.0)) (λ r. is_behind c r.0) rs
    ∙ same_kept (λ (r : Ranked). not (is_behind b r.0) && is_behind c r.0) (λ r. is_behind c r.0) rs
    (all_any (λ (r : Ranked). (not (is_behind b r.0) && is_behind c r.0) ≡ is_behind c r.0) rs (λ r. apart r.0))
  where
    one : (t u : Bool) → (u ≡ true → t ≡ false) → (not t && u) ≡ u
    one true true g = sym (g refl)
    one true false g = refl
    one false u g = refl

    apart : (o : Option (List ℕ)) → (not (is_behind b o) && is_behind c o) ≡ is_behind c o
    apart None = refl
    apart (Some v) = one (same_text b (61 ∷ v)) (same_text c (61 ∷ v)) (λ e. ap (λ x. is_eq (text_cmp b x)) (sym (is_text c (61 ∷ v) e)) ∙ ap is_eq l)

later_rising : (b : List ℕ) (bs : List (List ℕ)) (rs : List Ranked) → AllByRecursion (λ c. text_cmp b c ≡ Less) bs → rising bs (others b rs) ≡ rising bs rs
later_rising b [] rs h = refl
later_rising b (c ∷ cs) rs h = (λ i. later_value b c rs h.0 i ++ later_rising b cs rs h.1 i)

later_falling : (b : List ℕ) (bs : List (List ℕ)) (rs : List Ranked) → AllByRecursion (λ c. text_cmp b c ≡ Less) bs → falling bs (others b rs) ≡ falling bs rs
later_falling b [] rs h = refl
later_falling b (c ∷ cs) rs h = (λ i. later_falling b cs rs h.1 i ++ later_value b c rs h.0 i)

-- the values of all of them stand among the texts
abbrev pub AreAmong : List (List ℕ) → List Ranked → Type 0
AreAmong bs rs = AllByRecursion (λ r. among bs r ≡ true) rs

none_among : (f : Bool) (rs : List Ranked) → AreAmong [] rs → in_page_order f rs ≡ []
none_among f [] h = refl
none_among f (r ∷ rs) h = absurd (true≢false (sym h.0))

others_among : (b : List ℕ) (bs : List (List ℕ)) (rs : List Ranked) → AllByRecursion (λ c. text_cmp b c ≡ Less) bs → AreAmong (b ∷ bs) rs → AreAmong bs (others b rs)
unfolding others
others_among b bs rs h k =
    all_from (λ (r : Ranked). (among (b ∷ bs) r ≡ true) × (not (is_behind b r.0) ≡ true)) (λ r. among bs r ≡ true) (others b rs) (λ r g. (agree b bs r h g.0).2 g.1)
    (both_hold (λ (r : Ranked). among (b ∷ bs) r ≡ true) (λ r. not (is_behind b r.0) ≡ true) (others b rs)
    (all_kept (λ (r : Ranked). among (b ∷ bs) r ≡ true) (λ r. not (is_behind b r.0)) rs k)
    (all_passing (λ (r : Ranked). not (is_behind b r.0)) rs))

rising_is : (bs : List (List ℕ)) (rs : List Ranked) → Rise bs → InOrder rs → AreAmong bs rs → in_page_order false rs ≡ rising bs rs
unfolding others
rising_is [] rs u i k = none_among false rs k
rising_is (b ∷ bs) rs u i k =
    parted false (λ r. upto b r.0) (λ x y h g. rises x y b h g) rs
    ∙ (λ j. in_page_order false (same_kept (λ (r : Ranked). upto b r.0) (λ r. is_behind b r.0) rs (all_from (λ (r : Ranked). among (b ∷ bs) r ≡ true) (λ r. upto b r.0 ≡ is_behind b r.0) rs (λ r h. (agree b bs r u.0 h).0) k) j)
    ++ in_page_order false (same_kept (λ (r : Ranked). not (upto b r.0)) (λ r. not (is_behind b r.0)) rs (all_from (λ (r : Ranked). among (b ∷ bs) r ≡ true) (λ r. not (upto b r.0) ≡ not (is_behind b r.0)) rs (λ r h. ap not ((agree b bs r u.0 h).0)) k) j))
    ∙ (λ j. with_value_in_order false b rs i j
    ++ rising_is bs (others b rs) u.1 (kept_in_order (λ r. not (is_behind b r.0)) rs i) (others_among b bs rs u.0 k) j)
    ∙ ap (λ l. with_value b rs ++ l) (later_rising b bs rs u.0)

falling_is : (bs : List (List ℕ)) (rs : List Ranked) → Rise bs → InOrder rs → AreAmong bs rs → in_page_order true rs ≡ falling bs rs
unfolding others
falling_is [] rs u i k = none_among true rs k
falling_is (b ∷ bs) rs u i k =
    parted true (λ r. over b r.0) (λ x y h g. falls x y b h g) rs
    ∙ (λ j. in_page_order true (same_kept (λ (r : Ranked). over b r.0) (λ r. not (is_behind b r.0)) rs (all_from (λ (r : Ranked). among (b ∷ bs) r ≡ true) (λ r. over b r.0 ≡ not (is_behind b r.0)) rs (λ r h. (agree b bs r u.0 h).1) k) j)
    ++ in_page_order true (same_kept (λ (r : Ranked). not (over b r.0)) (λ r. is_behind b r.0) rs (all_from (λ (r : Ranked). among (b ∷ bs) r ≡ true) (λ r. not (over b r.0) ≡ is_behind b r.0) rs (λ r h. ap not ((agree b bs r u.0 h).1) ∙ twice (is_behind b r.0)) k) j))
    ∙ (λ j. falling_is bs (others b rs) u.1 (kept_in_order (λ r. not (is_behind b r.0)) rs i) (others_among b bs rs u.0 k) j
    ++ with_value_in_order true b rs i j)
    ∙ ap (λ l. l ++ with_value b rs) (later_falling b bs rs u.0)
  where
    twice : (t : Bool) → not (not t) ≡ t
    twice true = refl
    twice false = refl

-- ---- the whole order

abbrev pub valued : List Ranked → List Ranked
valued rs = filter (λ r. is_some r.0) rs

has_none : (o : Option (List ℕ)) → not (is_some o) ≡ true → o ≡ None
has_none None h = refl
has_none (Some v) h = absurd (true≢false (sym h))

values_first : (f : Bool) (x y : Ranked) → is_some x.0 ≡ true → is_some y.0 ≡ false → (comes_before f (place_of x) (place_of y) ≡ true) × (comes_before f (place_of y) (place_of x) ≡ false)
values_first f (None, p) y h k = absurd (true≢false (sym h))
values_first f (Some v, p) (None, q) h k = (refl, refl)
values_first f (Some v, p) (Some w, q) h k = absurd (true≢false k)

rest_in_order : (f : Bool) (rs : List Ranked) → InOrder rs → in_page_order f (without_value rs) ≡ without_value rs
rest_in_order f rs i =
    alike f None (without_value rs)
    (all_from (λ (r : Ranked). not (is_some r.0) ≡ true) (λ r. r.0 ≡ None) (without_value rs) (λ r h. has_none r.0 h) (all_passing (λ (r : Ranked). not (is_some r.0)) rs))
    (kept_in_order (λ r. not (is_some r.0)) rs i)

value_of_valued : (b : List ℕ) (rs : List Ranked) → with_value b (valued rs) ≡ with_value b rs
value_of_valued b rs =
    kept_twice (λ (r : Ranked). is_some r.0) (λ r. is_behind b r.0) rs
    ∙ same_kept (λ (r : Ranked). is_some r.0 && is_behind b r.0) (λ r. is_behind b r.0) rs (all_any (λ (r : Ranked). (is_some r.0 && is_behind b r.0) ≡ is_behind b r.0) rs (λ r. go r.0))
  where
    go : (o : Option (List ℕ)) → (is_some o && is_behind b o) ≡ is_behind b o
    go None = refl
    go (Some v) = refl

rising_valued : (bs : List (List ℕ)) (rs : List Ranked) → rising bs (valued rs) ≡ rising bs rs
rising_valued [] rs = refl
rising_valued (b ∷ bs) rs = (λ i. value_of_valued b rs i ++ rising_valued bs rs i)

falling_valued : (bs : List (List ℕ)) (rs : List Ranked) → falling bs (valued rs) ≡ falling bs rs
falling_valued [] rs = refl
falling_valued (b ∷ bs) rs = (λ i. falling_valued bs rs i ++ value_of_valued b rs i)

-- by rising value, and then those without one
pub whole_rising : (bs : List (List ℕ)) (rs : List Ranked) → Rise bs → InOrder rs → AreAmong bs (valued rs) → in_page_order false rs ≡ rising bs rs ++ without_value rs
whole_rising bs rs u i k =
    parted false (λ r. is_some r.0) (values_first false) rs
    ∙ (λ j. (rising_is bs (valued rs) u (kept_in_order (λ r. is_some r.0) rs i) k ∙ rising_valued bs rs) j ++ rest_in_order false rs i j)

-- by falling value, and then those without one
pub whole_falling : (bs : List (List ℕ)) (rs : List Ranked) → Rise bs → InOrder rs → AreAmong bs (valued rs) → in_page_order true rs ≡ falling bs rs ++ without_value rs
whole_falling bs rs u i k =
    parted true (λ r. is_some r.0) (values_first true) rs
    ∙ (λ j. (falling_is bs (valued rs) u (kept_in_order (λ r. is_some r.0) rs i) k ∙ falling_valued bs rs) j ++ rest_in_order true rs i j)
