-- The texts that a loop has seen, as a set in order and as a list.
use Rattle.std.proofs.Common.{◌≡◌, ℕ, suc, ◌+◌, ◌<◌, Bool, true, false, not, cond, ◌||◌, List, [], ◌∷◌, map, Some, Bor, if◌then◌else◌, bytes_eq, length, get_or, drop, nat_cmp, nat_eq, refl, ap, sym, ◌∙◌, add-one, drop-cons, arith}
use Rattle.std.proofs.lemmas.Bool.Decides.{nat_tests}
use Rattle.std.proofs.lemmas.Map.Text.{is_eq-slice_cmp}
use Rattle.std.specs.Cmp.Lexicographic.{slice_cmp}
use Rattle.std.specs.List.{list_any}
use Rattle.std.specs.Ordering.{is_eq}
use Rattle.cat_inputs.specs.Inputs.{repeated}

abbrev pub Lent : Type 0
Lent = Bor (List ℕ)

-- what a list has past its end
abbrev pub no_text : Lent
no_text = record { ref_ptr = (0, 0); now = [] }

abbrev pub texts_in : List Lent → List (List ℕ)
texts_in ks = map (λ k. k.now) ks

-- the query is among the keys, as the set asks it
abbrev pub is_among : List ℕ → List Lent → Bool
is_among q ks = list_any (λ k. is_eq (slice_cmp nat_cmp q k.now)) ks

is_among-texts : (q : List ℕ) (ks : List Lent) → is_among q ks ≡ list_any (bytes_eq q) (texts_in ks)
is_among-texts q [] = refl
is_among-texts q (k ∷ ks) = rw (is_eq-slice_cmp q k.now) (ap (λ b. bytes_eq q k.now || b) (is_among-texts q ks))

nat_eq-sym : (a b : ℕ) → nat_eq a b ≡ nat_eq b a
nat_eq-sym a b = grind (arith, nat_tests)

pub bytes_eq-sym : (xs ys : List ℕ) → bytes_eq xs ys ≡ bytes_eq ys xs
bytes_eq-sym [] [] = refl
bytes_eq-sym [] (y ∷ ys) = refl
bytes_eq-sym (x ∷ xs) [] = refl
bytes_eq-sym (x ∷ xs) (y ∷ ys) = rw (nat_eq-sym x y, bytes_eq-sym xs ys) refl

or_is : (b r : Bool) → cond b true r ≡ (b || r)
or_is true r = refl
or_is false r = refl

-- two lists with the same texts answer alike
repeated-same : (seen others ts : List (List ℕ)) (i : ℕ) → ((q : List ℕ) → list_any (bytes_eq q) seen ≡ list_any (bytes_eq q) others) → repeated seen i ts ≡ repeated others i ts
repeated-same seen others [] i h = refl
repeated-same seen others (t ∷ ts) i h =
    rw (h t) (ap (λ r. if list_any (bytes_eq t) others then Some i else r) (repeated-same (t ∷ seen) (t ∷ others) ts (suc i) (λ q. ap (λ b. bytes_eq q t || b) (h q))))

-- the set, grown by t, has the texts of the list, grown by t
abbrev pub Grows : List Lent → List Lent → Lent → Type 0
Grows old new t = (q : Lent) → is_among q.now new ≡ cond (is_eq (slice_cmp nat_cmp t.now q.now)) true (is_among q.now old)

lent : List ℕ → Lent
lent q = record { ref_ptr = (0, 0); now = q }

grown_texts : (old new : List Lent) (t : Lent) → Grows old new t → (q : List ℕ) → list_any (bytes_eq q) (texts_in new) ≡ list_any (bytes_eq q) (t.now ∷ texts_in old)
unfolding lent
grown_texts old new t h q =
    sym (is_among-texts q new) ∙ (h (lent q)
    ∙ (or_is (is_eq (slice_cmp nat_cmp t.now q)) (is_among q old)
    ∙ ((λ i. is_eq-slice_cmp t.now q i || is_among-texts q old i) ∙ ap (λ b. b || list_any (bytes_eq q) (texts_in old)) (bytes_eq-sym t.now q))))

left_at : (seen : List (List ℕ)) (texts : List Lent) (i : ℕ) (t d : Lent) → i < length texts → t ≡ get_or texts i d → repeated seen i (texts_in (drop i texts)) ≡ (if list_any (bytes_eq t.now) seen then Some i else repeated (t.now ∷ seen) (suc i) (texts_in (drop (suc i) texts)))
left_at seen texts i t d short at =
    ap (λ ts. repeated seen i (texts_in ts)) (drop-cons texts i d short)
    ∙ ap (λ (u : Lent). if list_any (bytes_eq u.now) seen then Some i else repeated (u.now ∷ seen) (suc i) (texts_in (drop (suc i) texts))) (sym at)

-- the text at i was seen
pub repeats_at : (old texts : List Lent) (i : ℕ) (t d : Lent) → i < length texts → t ≡ get_or texts i d → is_among t.now old ≡ true → repeated (texts_in old) i (texts_in (drop i texts)) ≡ Some i
repeats_at old texts i t d short at h =
    left_at (texts_in old) texts i t d short at ∙ rw (sym (is_among-texts t.now old) ∙ h) refl

-- the text at i was not seen, and is now
pub goes_on : (old new texts : List Lent) (i : ℕ) (t d : Lent) → i < length texts → t ≡ get_or texts i d → is_among t.now old ≡ false → Grows old new t → repeated (texts_in new) (i + 1) (texts_in (drop (i + 1) texts)) ≡ repeated (texts_in old) i (texts_in (drop i texts))
goes_on old new texts i t d short at h grows =
    rw (add-one i) (repeated-same (texts_in new) (t.now ∷ texts_in old) (texts_in (drop (suc i) texts)) (suc i) (grown_texts old new t grows)
    ∙ sym (left_at (texts_in old) texts i t d short at ∙ rw (sym (is_among-texts t.now old) ∙ h) refl))

-- the set says whether the text was new
pub was_seen : (b new : Bool) → new ≡ not b → new ≡ false → b ≡ true
was_seen true new e f = refl
was_seen false new e f = sym f ∙ e

pub was_new : (b new : Bool) → new ≡ not b → new ≡ true → b ≡ false
was_new true new e f = sym f ∙ e
was_new false new e f = refl
