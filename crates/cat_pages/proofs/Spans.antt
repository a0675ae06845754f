-- What is found while one entry after the other is looked at, until there is enough.
use Rattle.std.proofs.Common.{arith, ◌≡◌, ℕ, zero, suc, ◌+◌, ◌-◌, ◌<◌, ◌≤◌, Bool, true, false, List, [], ◌∷◌, ◌++◌, take, drop, Option, Some, None, refl, sym, ap, subst, ◌∙◌, append_assoc, true≢false}
use Rattle.std.specs.Prelude.{slice_get, is_some, IfSome}
use Rattle.std.specs.List.{AllByRecursion, cons_option, filter_map}
use Rattle.std.specs.Option.{option_and_then}
use Rattle.std.proofs.lemmas.List.{append-nil}
use Rattle.cat_search.specs.Index.{Set, Lists}
use Rattle.cat_search.specs.Terms.{Term}
use Rattle.cat_pages.specs.Page.{Ranked}
use Rattle.cat_pages.specs.Walked.{at_entry, with_value, rising, falling, by_value, span, behinds}

-- ---- the first ones

pub take_front : {X : Type 0} (n : ℕ) (xs ys : List X) → take n (xs ++ ys) ≡ take n (take n xs ++ ys)
take_front zero xs ys = refl
take_front (suc n) [] ys = refl
take_front (suc n) (x ∷ xs) ys = ap (λ l. x ∷ l) (take_front n xs ys)

-- what begins alike goes on alike
pub take_alike : {X : Type 0} (n : ℕ) (xs ys zs : List X) → take n xs ≡ take n ys → take n (xs ++ zs) ≡ take n (ys ++ zs)
take_alike n xs ys zs e = take_front n xs zs ∙ ap (λ l. take n (l ++ zs)) e ∙ sym (take_front n ys zs)

-- ---- entries

slice_drop : {X : Type 0} (xs : List X) (i : ℕ) (x : X) → slice_get xs i ≡ Some x → drop i xs ≡ x ∷ drop (suc i) xs
slice_drop [] i x e = absurd (true≢false (sym (ap is_some e)))
slice_drop (y ∷ ys) zero x e = ap (λ z. z ∷ ys) (cc)
slice_drop (y ∷ ys) (suc i) x e = slice_drop ys i x e

drop_none : {X : Type 0} (n : ℕ) → drop {A = X} n [] ≡ []
drop_none zero = refl
drop_none (suc n) = refl

take_none : {X : Type 0} (n : ℕ) → take {A = X} n [] ≡ []
take_none zero = refl
take_none (suc n) = refl

slice_none : {X : Type 0} (xs : List X) (i : ℕ) → slice_get xs i ≡ None → drop i xs ≡ []
slice_none [] i e = drop_none i
slice_none (y ∷ ys) zero e = absurd (true≢false (ap is_some e))
slice_none (y ∷ ys) (suc i) e = slice_none ys i e

-- the entry at a place is the first of those from there on
pub span_first : (lists : Lists) (i end : ℕ) (e : Term × Set) → i < end → slice_get lists i ≡ Some e → span i end lists ≡ e ∷ span (i + 1) end lists
span_first lists i end e h s =
    let one : end - i ≡ suc (end - (i + 1)) = omega arith in
    let next : suc i ≡ i + 1 = omega arith in
    (λ k. take (one k) (slice_drop lists i e s k)) ∙ ap (λ j. e ∷ take (end - (i + 1)) (drop j lists)) next

slice_none_past : {X : Type 0} (xs : List X) (i : ℕ) → slice_get xs i ≡ None → drop (suc i) xs ≡ []
slice_none_past [] i e = drop_none (suc i)
slice_none_past (y ∷ ys) zero e = absurd (true≢false (ap is_some e))
slice_none_past (y ∷ ys) (suc i) e = slice_none_past ys i e

span_past : (lists : Lists) (i end : ℕ) → slice_get lists i ≡ None → span (i + 1) end lists ≡ []
span_past lists i end s =
    let next : i + 1 ≡ suc i = omega arith in
    ap (λ j. take (end - (i + 1)) (drop j lists)) next ∙ ap (take (end - (i + 1))) (slice_none_past lists i s) ∙ take_none (end - (i + 1))

pub span_over : (lists : Lists) (i end : ℕ) → slice_get lists i ≡ None → span i end lists ≡ []
span_over lists i end s = ap (take (end - i)) (slice_none lists i s) ∙ take_none (end - i)

-- and the last of those up to the next place
one_more : (xs : Lists) (n : ℕ) (e : Term × Set) → slice_get xs n ≡ Some e → take (suc n) xs ≡ take n xs ++ e ∷ []
one_more [] n e s = absurd (true≢false (sym (ap is_some s)))
one_more (x ∷ xs) zero e s = ap (λ y. y ∷ []) (cc)
one_more (x ∷ xs) (suc n) e s = ap (λ l. x ∷ l) (one_more xs n e s)

no_more : (xs : Lists) (n : ℕ) → slice_get xs n ≡ None → take (suc n) xs ≡ take n xs
no_more [] n s = sym (take_none n)
no_more (x ∷ xs) zero s = absurd (true≢false (ap is_some s))
no_more (x ∷ xs) (suc n) s = ap (λ l. x ∷ l) (no_more xs n s)

get_dropped : (xs : Lists) (i j : ℕ) → slice_get (drop i xs) j ≡ slice_get xs (i + j)
get_dropped xs zero j = let same : j ≡ 0 + j = omega arith in ap (slice_get xs) same
get_dropped [] (suc i) j = refl
get_dropped (x ∷ xs) (suc i) j = let same : suc (i + j) ≡ suc i + j = omega arith in get_dropped xs i j ∙ ap (slice_get (x ∷ xs)) same

pub span_last : (lists : Lists) (start i : ℕ) (e : Term × Set) → start ≤ i → slice_get lists i ≡ Some e → span start (i + 1) lists ≡ span start i lists ++ e ∷ []
span_last lists start i e h s =
    let one : i + 1 - start ≡ suc (i - start) = omega arith in
    let back : start + (i - start) ≡ i = omega arith in
    ap (λ n. take n (drop start lists)) one ∙ one_more (drop start lists) (i - start) e (get_dropped lists start (i - start) ∙ ap (slice_get lists) back ∙ s)

pub span_end : (lists : Lists) (start i : ℕ) → start ≤ i → slice_get lists i ≡ None → span start (i + 1) lists ≡ span start i lists
span_end lists start i h s =
    let one : i + 1 - start ≡ suc (i - start) = omega arith in
    let back : start + (i - start) ≡ i = omega arith in
    ap (λ n. take n (drop start lists)) one ∙ no_more (drop start lists) (i - start) (get_dropped lists start (i - start) ∙ ap (slice_get lists) back ∙ s)

pub span_none : (lists : Lists) (i end : ℕ) → end ≤ i → span i end lists ≡ []
span_none lists i end h = let none : end - i ≡ 0 = omega arith in ap (λ n. take n (drop i lists)) none

-- ---- steps

-- with those of one entry more, those of the entries behind it are left
pub rising_more : (n : ℕ) (cs old new whole : List Ranked) (e : Term × Set) (es fs : Lists) → es ≡ e ∷ fs → take n new ≡ take n (old ++ with_value e.0.1 cs)
    → take n (old ++ rising (behinds es) cs) ≡ whole → take n (new ++ rising (behinds fs) cs) ≡ whole
rising_more n cs old new whole e es fs is more was =
    take_alike n new (old ++ with_value e.0.1 cs) (rising (behinds fs) cs) more
    ∙ ap (take n) (append_assoc old (with_value e.0.1 cs) (rising (behinds fs) cs))
    ∙ ap (λ l. take n (old ++ rising (behinds l) cs)) (sym is)
    ∙ was

falling_last : (cs : List Ranked) (es : Lists) (e : Term × Set) → falling (behinds (es ++ e ∷ [])) cs ≡ with_value e.0.1 cs ++ falling (behinds es) cs
falling_last cs [] e = sym (append-nil (with_value e.0.1 cs))
falling_last cs (x ∷ xs) e = ap (λ l. l ++ with_value x.0.1 cs) (falling_last cs xs e) ∙ append_assoc (with_value e.0.1 cs) (falling (behinds xs) cs) (with_value x.0.1 cs)

pub falling_more : (n : ℕ) (cs old new whole : List Ranked) (e : Term × Set) (es fs : Lists) → es ≡ fs ++ e ∷ [] → take n new ≡ take n (old ++ with_value e.0.1 cs)
    → take n (old ++ falling (behinds es) cs) ≡ whole → take n (new ++ falling (behinds fs) cs) ≡ whole
falling_more n cs old new whole e es fs is more was =
    take_alike n new (old ++ with_value e.0.1 cs) (falling (behinds fs) cs) more
    ∙ ap (take n) (append_assoc old (with_value e.0.1 cs) (falling (behinds fs) cs))
    ∙ ap (λ l. take n (old ++ l)) (sym (ap (λ l. falling (behinds l) cs) is ∙ falling_last cs fs e))
    ∙ was

-- no entry is left
pub none_left : (n : ℕ) (found whole : List Ranked) (f : Bool) (cs : List Ranked) (es : Lists) → es ≡ [] → take n (found ++ by_value f (behinds es) cs) ≡ whole → take n found ≡ whole
none_left n found whole f cs es is was = ap (take n) (sym (append-nil found) ∙ ap (λ l. found ++ l) (sym (none f))) ∙ ap (λ l. take n (found ++ by_value f (behinds l) cs)) (sym is) ∙ was
  where
    none : (g : Bool) → by_value g (behinds []) cs ≡ []
    none true = refl
    none false = refl

-- with those at the entry of a place, those at the places behind it are left
pub rising_step : (n : ℕ) (cs old new whole : List Ranked) (lists : Lists) (i end : ℕ) → i < end → take n new ≡ take n (old ++ at_entry (slice_get lists i) cs)
    → take n (old ++ rising (behinds (span i end lists)) cs) ≡ whole → take n (new ++ rising (behinds (span (i + 1) end lists)) cs) ≡ whole
rising_step n cs old new whole lists i end h more was = go (slice_get lists i) refl more
  where
    go : (o : Option (Term × Set)) → slice_get lists i ≡ o → take n new ≡ take n (old ++ at_entry o cs) → take n (new ++ rising (behinds (span (i + 1) end lists)) cs) ≡ whole
    go None s more =
        take_alike n new (old ++ []) (rising (behinds (span (i + 1) end lists)) cs) more
        ∙ ap (λ l. take n (l ++ rising (behinds (span (i + 1) end lists)) cs)) (append-nil old)
        ∙ ap (λ l. take n (old ++ rising (behinds l) cs)) (span_past lists i end s ∙ sym (span_over lists i end s))
        ∙ was
    go (Some e) s more = rising_more n cs old new whole e (span i end lists) (span (i + 1) end lists) (span_first lists i end e h s) more was

-- with those at the entry of a place, those at the places before it are left
pub falling_step : (n : ℕ) (cs old new whole : List Ranked) (lists : Lists) (start i : ℕ) → start ≤ i → take n new ≡ take n (old ++ at_entry (slice_get lists i) cs)
    → take n (old ++ falling (behinds (span start (i + 1) lists)) cs) ≡ whole → take n (new ++ falling (behinds (span start i lists)) cs) ≡ whole
falling_step n cs old new whole lists start i h more was = go (slice_get lists i) refl more
  where
    go : (o : Option (Term × Set)) → slice_get lists i ≡ o → take n new ≡ take n (old ++ at_entry o cs) → take n (new ++ falling (behinds (span start i lists)) cs) ≡ whole
    go None s more =
        take_alike n new (old ++ []) (falling (behinds (span start i lists)) cs) more
        ∙ ap (λ l. take n (l ++ falling (behinds (span start i lists)) cs)) (append-nil old)
        ∙ ap (λ l. take n (old ++ falling (behinds l) cs)) (sym (span_end lists start i h s))
        ∙ was
    go (Some e) s more = falling_more n cs old new whole e (span start (i + 1) lists) (span start i lists) (span_last lists start i e h s) more was

-- what holds of each entry between two places holds of the one at a place between them
pub holds_at : (P : Term × Set → Type 0) (lists : Lists) (start end i : ℕ) → start ≤ i → i < end → AllByRecursion P (span start end lists) → IfSome (slice_get lists i) P
holds_at P lists start end i h k all =
    let back : start + (i - start) ≡ i = omega arith in
    let few : i - start < end - start = omega arith in
    subst (λ o. IfSome o P) (get_dropped lists start (i - start) ∙ ap (slice_get lists) back) (go (drop start lists) (end - start) (i - start) few all)
  where
    go : (xs : Lists) (n j : ℕ) → j < n → AllByRecursion P (take n xs) → IfSome (slice_get xs j) P
    go xs zero j h all = absurd (omega arith)
    go [] (suc n) j h all = tt
    go (x ∷ xs) (suc n) zero h all = all.0
    go (x ∷ xs) (suc n) (suc j) h all = go xs n j (omega arith) all.1

-- ---- documents one after the other

-- what is made of the item at a place comes before what is made of those behind it
pub made_at : {X : Type 0} (f : X → Option Ranked) (xs : List X) (i : ℕ) → filter_map f (drop i xs) ≡ cons_option (option_and_then f (slice_get xs i)) [] ++ filter_map f (drop (i + 1) xs)
made_at {X = X} f xs i = go (slice_get xs i) refl
  where
    next : i + 1 ≡ suc i
    next = omega arith

    go : (o : Option X) → slice_get xs i ≡ o → filter_map f (drop i xs) ≡ cons_option (option_and_then f o) [] ++ filter_map f (drop (i + 1) xs)
    go None s = ap (filter_map f) (slice_none xs i s) ∙ ap (filter_map f) (sym (slice_none_past xs i s) ∙ ap (λ j. drop j xs) (sym next))
    go (Some x) s = ap (filter_map f) (slice_drop xs i x s) ∙ one (f x) ∙ ap (λ j. cons_option (f x) [] ++ filter_map f (drop j xs)) (sym next)
      where
        one : (o : Option Ranked) → cons_option o (filter_map f (drop (suc i) xs)) ≡ cons_option o [] ++ filter_map f (drop (suc i) xs)
        one None = refl
        one (Some r) = refl

-- one item was looked at
pub looked_on : (n : ℕ) (old new whole ys zs : List Ranked) (o : Option Ranked) → new ≡ old ++ cons_option o [] → ys ≡ cons_option o [] ++ zs → take n (old ++ ys) ≡ whole → take n (new ++ zs) ≡ whole
looked_on n old new whole ys zs o more is was =
    ap (λ l. take n (l ++ zs)) more
    ∙ ap (take n) (append_assoc old (cons_option o []) zs)
    ∙ ap (λ l. take n (old ++ l)) (sym is)
    ∙ was
