-- The first documents of an order, kept while one document after the other comes in.
use Rattle.std.proofs.Common.{◌≡◌, ℕ, zero, suc, ◌+◌, ◌-◌, ◌<◌, ◌≤◌, Bool, true, false, cond, List, [], ◌∷◌, length, take, drop, map, Option, Some, None, refl, sym, ap, ◌∙◌, arith, ◌++◌, append_assoc, get_or, subst, true≢false}
use Rattle.std.specs.Prelude.{slice_get, nat_lt}
use Rattle.std.specs.Borrow.{Bor}
use Rattle.cat_tree.specs.declared.tree.Tree.{Tree}
use Rattle.std.specs.List.{filter_map, cons_option, insert}
use Rattle.std.proofs.lemmas.Bool.Decides.{nat_tests}
use Rattle.std.proofs.lemmas.List.{take-map, length-take, map-append, drop_more, drop_all, take_more as take_more_items}
use Rattle.cat_pages.specs.Page.{Pair, Ranked, pair_seen, place_of, comes_before, inserted, in_page_order, kept_with, cursor_of, next_after, page_items}
use Rattle.cat_pages.specs.Seen.{ranked_seen, pair_of}
use Rattle.cat_pages.specs.declared.rank.Ranked.{Ranked as Lent}

take_more : (n : ℕ) (xs : List Ranked) → take n (take (suc n) xs) ≡ take n xs
take_more zero xs = refl
take_more (suc n) [] = refl
take_more (suc n) (x ∷ xs) = ap (λ l. x ∷ l) (take_more n xs)

take-cons : (n : ℕ) (x : Ranked) (xs : List Ranked) → take n (x ∷ take n xs) ≡ take n (x ∷ xs)
take-cons zero x xs = refl
take-cons (suc n) x xs = ap (λ l. x ∷ l) (take_more n xs)

both : (t : Bool) (n : ℕ) (r s : Ranked) (us vs ws zs : List Ranked) → take n (s ∷ us) ≡ take n (s ∷ vs) → take n ws ≡ take n zs → take (suc n) (cond t (r ∷ s ∷ us) (s ∷ ws)) ≡ take (suc n) (cond t (r ∷ s ∷ vs) (s ∷ zs))
both true n r s us vs ws zs h k = ap (λ l. r ∷ l) h
both false n r s us vs ws zs h k = ap (λ l. s ∷ l) k

-- the first ones with another are those of all with it
take-inserted : (f : Bool) (n : ℕ) (r : Ranked) (xs : List Ranked) → take n (inserted f r (take n xs)) ≡ take n (inserted f r xs)
take-inserted f zero r xs = refl
take-inserted f (suc n) r [] = refl
take-inserted f (suc n) r (x ∷ xs) =
    both (comes_before f (place_of r) (place_of x)) n r x (take n xs) xs (inserted f r (take n xs)) (inserted f r xs) (take-cons n x xs) (take-inserted f n r xs)

with_one : (f : Bool) (n : ℕ) (c : Option Ranked) (rs : List Ranked) → kept_with f n c (take n (in_page_order f rs)) ≡ take n (in_page_order f (cons_option c rs))
with_one f n None rs = refl
with_one f n (Some r) rs = take-inserted f n r (in_page_order f rs)

-- the first of the documents from a place on, where those from the next place on were kept
pub kept_more : (f : Bool) (n : ℕ) (g : Pair → Option Ranked) (xs : List (Bor (List ℕ) × Bor Tree)) (i : ℕ) (x : Bor (List ℕ) × Bor Tree) (old new : List Ranked) → i < length xs → x ≡ get_or xs i x
    → old ≡ take n (in_page_order f (filter_map g (map pair_seen (drop (i + 1) xs)))) → new ≡ kept_with f n (g (pair_seen x)) old → new ≡ take n (in_page_order f (filter_map g (map pair_seen (drop i xs))))
kept_more f n g xs i x old new h at was is =
    is ∙ ap (kept_with f n (g (pair_seen x))) was
    ∙ with_one f n (g (pair_seen x)) (filter_map g (map pair_seen (drop (i + 1) xs)))
    ∙ ap (λ l. take n (in_page_order f (filter_map g (map pair_seen l)))) (sym (drop_more xs i x h ∙ ap (λ y. y ∷ drop (i + 1) xs) (sym at)))

pairs_of : (xs : List Lent) → map pair_of xs ≡ map (λ r. r.1) (map ranked_seen xs)
pairs_of [] = refl
pairs_of (x ∷ xs) = ap (λ l. pair_of x ∷ l) (pairs_of xs)

-- the documents of a page, where one more was kept
pub page_from : (n : ℕ) (xs : List Lent) (rs : List Ranked) → map ranked_seen xs ≡ take (suc n) rs → map pair_of (take n xs) ≡ page_items n rs
page_from n xs rs e =
    pairs_of (take n xs)
    ∙ ap (map (λ (r : Ranked). r.1)) (sym (take-map ranked_seen n xs) ∙ ap (take n) e ∙ take_more n rs)

get_taken : (n i : ℕ) (rs : List Ranked) → i < n → slice_get (take n rs) i ≡ slice_get rs i
get_taken zero i rs h = absurd (omega arith)
get_taken (suc n) i [] h = refl
get_taken (suc n) zero (r ∷ rs) h = refl
get_taken (suc n) (suc i) (r ∷ rs) h = get_taken n i rs (omega arith)

more_taken : (n : ℕ) (rs : List Ranked) → nat_lt n (length (take (suc n) rs)) ≡ nat_lt n (length rs)
more_taken n rs = rw length-take (grind (arith, nat_tests))

-- the next cursor, where one document more was kept
pub next_from : (n : ℕ) (rs : List Ranked) → 1 ≤ n → next_after n (take (suc n) rs) ≡ next_after n rs
next_from n rs h =
    (λ i. cond (more_taken n rs i) (cursor_of (get_taken (suc n) (n - 1) rs (omega arith) i)) None)

-- ---- where a document is put

put_step : (t : Bool) (f : Bool) (r s : Ranked) (rs : List Ranked) → t ≡ true → cond t (r ∷ s ∷ rs) (s ∷ inserted f r rs) ≡ r ∷ s ∷ rs
put_step true f r s rs h = refl
put_step false f r s rs h = absurd (true≢false (sym h))

skip_step : (t : Bool) (f : Bool) (r s : Ranked) (rs : List Ranked) → t ≡ false → cond t (r ∷ s ∷ rs) (s ∷ inserted f r rs) ≡ s ∷ inserted f r rs
skip_step true f r s rs h = absurd (true≢false h)
skip_step false f r s rs h = refl

-- a document that comes before this one stands before it
pub put_here : (f : Bool) (r : Ranked) (xs : List Lent) (i : ℕ) (x : Lent) → i < length xs → x ≡ get_or xs i x → comes_before f (place_of r) (place_of (ranked_seen x)) ≡ true → inserted f r (map ranked_seen (drop i xs)) ≡ r ∷ map ranked_seen (drop i xs)
put_here f r xs i x h at before =
    let here : drop i xs ≡ x ∷ drop (i + 1) xs = drop_more xs i x h ∙ ap (λ y. y ∷ drop (i + 1) xs) (sym at) in
    ap (λ l. inserted f r (map ranked_seen l)) here
    ∙ put_step (comes_before f (place_of r) (place_of (ranked_seen x))) f r (ranked_seen x) (map ranked_seen (drop (i + 1) xs)) before
    ∙ ap (λ l. r ∷ map ranked_seen l) (sym here)

-- and one that doesn't stands further on
pub put_later : (f : Bool) (r : Ranked) (xs : List Lent) (i : ℕ) (x : Lent) (all : List Ranked) → i < length xs → x ≡ get_or xs i x → comes_before f (place_of r) (place_of (ranked_seen x)) ≡ false → all ≡ map ranked_seen (take i xs) ++ inserted f r (map ranked_seen (drop i xs)) → all ≡ map ranked_seen (take (i + 1) xs) ++ inserted f r (map ranked_seen (drop (i + 1) xs))
put_later f r xs i x all h at before e =
    let here : drop i xs ≡ x ∷ drop (i + 1) xs = drop_more xs i x h ∙ ap (λ y. y ∷ drop (i + 1) xs) (sym at) in
    let more : take (i + 1) xs ≡ take i xs ++ x ∷ [] = take_more_items xs i x h ∙ ap (λ y. take i xs ++ y ∷ []) (sym at) in
    e ∙ ap (λ l. map ranked_seen (take i xs) ++ inserted f r (map ranked_seen l)) here
    ∙ ap (λ l. map ranked_seen (take i xs) ++ l) (skip_step (comes_before f (place_of r) (place_of (ranked_seen x))) f r (ranked_seen x) (map ranked_seen (drop (i + 1) xs)) before)
    ∙ sym (append_assoc (map ranked_seen (take i xs)) (ranked_seen x ∷ []) (inserted f r (map ranked_seen (drop (i + 1) xs))))
    ∙ ap (λ l. l ++ inserted f r (map ranked_seen (drop (i + 1) xs))) (sym (map-append ranked_seen (take i xs) (x ∷ [])) ∙ ap (map ranked_seen) (sym more))

-- past the last one it stands last
pub put_last : (f : Bool) (r : Ranked) (xs : List Lent) (i : ℕ) → length xs ≤ i → inserted f r (map ranked_seen (drop i xs)) ≡ r ∷ map ranked_seen (drop i xs)
put_last f r xs i h = ap (λ l. inserted f r (map ranked_seen l)) (drop_all i xs h) ∙ ap (λ l. r ∷ map ranked_seen l) (sym (drop_all i xs h))

-- what is kept after a document was put in its place
pub put_in : (f : Bool) (n : ℕ) (r : Lent) (xs ys new seen : List Lent) (i : ℕ) → seen ≡ xs → inserted f (ranked_seen r) (map ranked_seen seen) ≡ map ranked_seen (take i seen) ++ ranked_seen r ∷ map ranked_seen (drop i seen) → ys ≡ insert xs i r → new ≡ take n ys → map ranked_seen new ≡ take n (inserted f (ranked_seen r) (map ranked_seen xs))
put_in f n r xs ys new seen i same put more cut =
    ap (map ranked_seen) (cut ∙ ap (take n) more)
    ∙ sym (take-map ranked_seen n (take i xs ++ r ∷ drop i xs))
    ∙ ap (take n)
    (map-append ranked_seen (take i xs) (r ∷ drop i xs)
    ∙ sym (subst (λ l. inserted f (ranked_seen r) (map ranked_seen l) ≡ map ranked_seen (take i l) ++ ranked_seen r ∷ map ranked_seen (drop i l)) same put))
