-- Which references stand under a term after a change, and that a change of a document keeps the lists those of the documents.
use Rattle.std.proofs.Math.Seq.{drop-cons}
use Rattle.std.proofs.lemmas.List.{take_all}
use Rattle.std.proofs.Common.{◌≡◌, ◌≢◌, ℕ, zero, suc, ◌<◌, ◌≤◌, ◌+◌, ◌-◌, length, take, drop, get_or, append_assoc, arith, Bool, true, false, cond, not, ◌&&◌, ◌||◌, List, [], ◌∷◌, ◌++◌, map, Option, Some, None, Ordering, refl, sym, ap, subst, ◌∙◌, true≢false}
use Rattle.std.specs.Prelude.{option_map, unwrap_or}
use Rattle.std.specs.List.{list_all, list_any}
use Rattle.std.specs.List.Sorted.{IsPermutation}
use Rattle.std.proofs.lemmas.List.Folds.{list_any-append}
use Rattle.std.proofs.lemmas.List.Sorted.{list_any-IsPermutation}
use Rattle.std.specs.Ordering.{eq_by_cmp}
use Rattle.std.specs.FinMap.Entries.{find-put}
use Rattle.std.specs.Cmp.{IsTotalOrder}
use Rattle.std.specs.FinMap.{IsAntisymmetric}
use Rattle.cat_tree.specs.Data.{Data}
use Rattle.cat_collections.specs.Pairs.{pair_total, pair_antisymmetric}
use Rattle.cat_collections.specs.Rows.{without}
use Rattle.cat_collections.specs.Table.{Map, find, get, keys, put, text_cmp, text_total, text_antisymmetric}
use Rattle.cat_collections.proofs.Tables.{same_is}
use Rattle.cat_state_parts.proofs.Waiting.{find-without, got, has-put, has-without, longer, same, text_is}
use Rattle.cat_search.specs.Index.{Set, Lists, Posting, has, term_cmp, set_at, terms_at, has_term, has_posting, postings, AreLists, AreEntered, AreStruck, AgreeBeyond, with_document, with_documents, with_references, without_references, with_set, entered, struck}
use Rattle.cat_search.specs.Terms.{Term, document_terms}

pub term_total : IsTotalOrder term_cmp
term_total = pair_total text_total text_total

pub term_antisymmetric : IsAntisymmetric term_cmp
term_antisymmetric = pair_antisymmetric text_antisymmetric text_antisymmetric

pub term_is : (x y : Term) → eq_by_cmp term_cmp x y ≡ true → x ≡ y
term_is = same_is term_total term_antisymmetric

-- ---- sets under terms

one_of : (b : Bool) (s : Set) (x : Option Set) → unwrap_or (cond b (Some s) x) [] ≡ cond b s (unwrap_or x [])
one_of true s x = refl
one_of false s x = refl

none_of : (b : Bool) (x : Option Set) → unwrap_or (cond (not b) x None) [] ≡ cond b [] (unwrap_or x [])
none_of true x = refl
none_of false x = refl

set_at-put : (t : Term) (s : Set) (lists : Lists) (u : Term) → set_at (put term_cmp t s lists) u ≡ cond (eq_by_cmp term_cmp u t) s (set_at lists u)
set_at-put t s lists u = ap (λ o. unwrap_or o []) (find-put term_cmp term_total u t s lists) ∙ one_of (eq_by_cmp term_cmp u t) s (find term_cmp u lists)

set_at-with_set : (t : Term) (s : Set) (lists : Lists) (u : Term) → set_at (with_set t s lists) u ≡ cond (eq_by_cmp term_cmp u t) s (set_at lists u)
set_at-with_set t [] lists u =
    ap (λ o. unwrap_or o []) (find-without term_total term_antisymmetric u t lists) ∙ none_of (eq_by_cmp term_cmp u t) (find term_cmp u lists)
set_at-with_set t (e ∷ es) lists u =
    ap (λ b. set_at (cond b (without term_cmp t lists) (put term_cmp t (e ∷ es) lists)) u) (longer (length es)) ∙ set_at-put t (e ∷ es) lists u

-- the reference is one of these
abbrev pub among : List ℕ → List (List ℕ) → Bool
among q rs = list_any (same q) rs

or_into : (a b c : Bool) → (b || (a || c)) ≡ ((a || b) || c)
or_into true true c = refl
or_into true false c = refl
or_into false b c = refl

and_into : (a b c : Bool) → (not b && (not a && c)) ≡ (not (a || b) && c)
and_into true true c = refl
and_into true false c = refl
and_into false b c = refl

has-with_references : (rs : List (List ℕ)) (s : Set) (q : List ℕ) → has (with_references rs s) q ≡ (among q rs || has s q)
has-with_references [] s q = refl
has-with_references (r ∷ rs) s q =
    has-with_references rs (put text_cmp r (tt {0}) s) q ∙ ap (λ b. among q rs || b) (has-put r (tt {0}) s q) ∙ or_into (same q r) (among q rs) (has s q)

has-without_references : (rs : List (List ℕ)) (s : Set) (q : List ℕ) → has (without_references rs s) q ≡ (not (among q rs) && has s q)
has-without_references [] s q = refl
has-without_references (r ∷ rs) s q =
    has-without_references rs (without text_cmp r s) q ∙ ap (λ b. not (among q rs) && b) (has-without r s q) ∙ and_into (same q r) (among q rs) (has s q)

has-entered : (t : Term) (rs : List (List ℕ)) (lists : Lists) (u : Term) (q : List ℕ)
    → has (set_at (entered t rs lists) u) q ≡ ((eq_by_cmp term_cmp u t && among q rs) || has (set_at lists u) q)
has-entered t rs lists u q = ap (λ s. has s q) (set_at-put t (with_references rs (set_at lists t)) lists u) ∙ go (eq_by_cmp term_cmp u t) refl
  where
    go : (b : Bool) → eq_by_cmp term_cmp u t ≡ b → has (cond b (with_references rs (set_at lists t)) (set_at lists u)) q ≡ ((b && among q rs) || has (set_at lists u) q)
    go true e = has-with_references rs (set_at lists t) q ∙ ap (λ v. among q rs || has (set_at lists v) q) (sym (term_is u t e))
    go false e = refl

has-struck : (t : Term) (rs : List (List ℕ)) (lists : Lists) (u : Term) (q : List ℕ)
    → has (set_at (struck t rs lists) u) q ≡ (not (eq_by_cmp term_cmp u t && among q rs) && has (set_at lists u) q)
has-struck t rs lists u q = ap (λ s. has s q) (set_at-with_set t (without_references rs (set_at lists t)) lists u) ∙ go (eq_by_cmp term_cmp u t) refl
  where
    go : (b : Bool) → eq_by_cmp term_cmp u t ≡ b → has (cond b (without_references rs (set_at lists t)) (set_at lists u)) q ≡ (not (b && among q rs) && has (set_at lists u) q)
    go true e = has-without_references rs (set_at lists t) q ∙ ap (λ v. not (among q rs) && has (set_at lists v) q) (sym (term_is u t e))
    go false e = refl

-- ---- postings

take_next : {X : Type 0} (n : ℕ) (x : X) (xs : List X) → n ≢ 0 → take n (x ∷ xs) ≡ x ∷ take (n - 1) xs
take_next zero x xs h = absurd (h refl)
take_next (suc n) x xs h = ap (λ m. x ∷ take m xs) (less_one n)
  where
    less_one : (m : ℕ) → m ≡ suc m - 1
    less_one m = omega arith

-- the posting is this one
abbrev pub is_posting : Term → List ℕ → Posting → Bool
is_posting u q p = eq_by_cmp term_cmp u p.0 && same q p.1

first_of : (a b : Bool) → (a && b) ≡ true → (a ≡ true) × (b ≡ true)
first_of true true h = (refl, refl)
first_of true false h = absurd (true≢false (sym h))
first_of false b h = absurd (true≢false (sym h))

and_none : (b : Bool) → false ≡ (b && false)
and_none true = refl
and_none false = refl

and_either : (e a b : Bool) → ((e && a) || (e && b)) ≡ (e && (a || b))
and_either true a b = refl
and_either false a b = refl

-- where all postings have one term, their references stand under it
has-run : (t : Term) (run : List Posting) → list_all (λ p. eq_by_cmp term_cmp t p.0) run ≡ true → (u : Term) (q : List ℕ)
    → has_posting u q run ≡ (eq_by_cmp term_cmp u t && among q (map (λ p. p.1) run))
has-run t [] h u q = and_none (eq_by_cmp term_cmp u t)
has-run t (p ∷ run) h u q =
    let both = first_of (eq_by_cmp term_cmp t p.0) (list_all (λ r. eq_by_cmp term_cmp t r.0) run) h in
    (λ i. (eq_by_cmp term_cmp u (sym (term_is t p.0 both.0) i) && same q p.1) || has-run t run both.1 u q i)
    ∙ and_either (eq_by_cmp term_cmp u t) (same q p.1) (among q (map (λ r. r.1) run))

enter_more : (o e s a h : Bool) → (o || ((e && (s || a)) || h)) ≡ (((e && s) || ((e && a) || o)) || h)
enter_more true true true a h = refl
enter_more true true false true h = refl
enter_more true true false false h = refl
enter_more true false s a h = refl
enter_more false true true a h = refl
enter_more false true false true h = refl
enter_more false true false false h = refl
enter_more false false s a h = refl

strike_more : (o e s a h : Bool) → (not o && (not (e && (s || a)) && h)) ≡ (not ((e && s) || ((e && a) || o)) && h)
strike_more true true true a h = refl
strike_more true true false true h = refl
strike_more true true false false h = refl
strike_more true false s a h = refl
strike_more false true true a h = refl
strike_more false true false true h = refl
strike_more false true false false h = refl
strike_more false false s a h = refl

-- the postings of one term at the front, and the others
has-front : (first : Posting) (run others : List Posting) → list_all (λ p. eq_by_cmp term_cmp first.0 p.0) run ≡ true → (u : Term) (q : List ℕ)
    → has_posting u q (first ∷ (run ++ others))
    ≡ ((eq_by_cmp term_cmp u first.0 && same q first.1) || ((eq_by_cmp term_cmp u first.0 && among q (map (λ p. p.1) run)) || has_posting u q others))
has-front first run others h u q =
    ap (λ b. is_posting u q first || b) (list_any-append (is_posting u q) run others ∙ ap (λ b. b || has_posting u q others) (has-run first.0 run h u q))

-- once the postings of one term at the front are entered, the others are left to enter
enters_more : (first : Posting) (run others rest : List Posting) (old new : Lists) → list_all (λ p. eq_by_cmp term_cmp first.0 p.0) run ≡ true → run ++ others ≡ rest
    → AreEntered others (entered first.0 (first.1 ∷ map (λ p. p.1) run) old) new → AreEntered (first ∷ rest) old new
enters_more first run others rest old new h parts are u q =
    are u q
    ∙ ap (λ b. has_posting u q others || b) (has-entered first.0 (first.1 ∷ map (λ p. p.1) run) old u q)
    ∙ enter_more (has_posting u q others) (eq_by_cmp term_cmp u first.0) (same q first.1) (among q (map (λ p. p.1) run)) (has (set_at old u) q)
    ∙ ap (λ b. b || has (set_at old u) q) (sym (has-front first run others h u q) ∙ ap (λ ps. has_posting u q (first ∷ ps)) parts)

-- once the postings of one term at the front are struck, the others are left to strike
strikes_more : (first : Posting) (run others rest : List Posting) (old new : Lists) → list_all (λ p. eq_by_cmp term_cmp first.0 p.0) run ≡ true → run ++ others ≡ rest
    → AreStruck others (struck first.0 (first.1 ∷ map (λ p. p.1) run) old) new → AreStruck (first ∷ rest) old new
strikes_more first run others rest old new h parts are u q =
    are u q
    ∙ ap (λ b. not (has_posting u q others) && b) (has-struck first.0 (first.1 ∷ map (λ p. p.1) run) old u q)
    ∙ strike_more (has_posting u q others) (eq_by_cmp term_cmp u first.0) (same q first.1) (among q (map (λ p. p.1) run)) (has (set_at old u) q)
    ∙ ap (λ b. not b && has (set_at old u) q) (sym (has-front first run others h u q) ∙ ap (λ ps. has_posting u q (first ∷ ps)) parts)

all_behind : (ps : List Posting) → take (suc (length ps) - 1) ps ≡ ps
all_behind ps = ap (λ n. take n ps) (less_one (length ps)) ∙ take_all (length ps) ps (omega arith)
  where
    less_one : (n : ℕ) → suc n - 1 ≡ n
    less_one n = omega arith

pub enters_left : (left : List Posting) (first : Posting) (run others : List Posting) (old new : Lists) → 1 ≤ length left → first ≡ get_or left 0 first
    → list_all (λ p. eq_by_cmp term_cmp first.0 p.0) run ≡ true → run ++ others ≡ take (length left - 1) (drop 1 left)
    → AreEntered others (entered first.0 (first.1 ∷ map (λ p. p.1) run) old) new → AreEntered left old new
enters_left [] first run others old new some is h parts are = absurd (omega (arith, some))
enters_left (p ∷ ps) first run others old new some is h parts are =
    subst (λ (x : Posting). AreEntered (x ∷ ps) old new) is (enters_more first run others ps old new h (parts ∙ all_behind ps) are)

pub strikes_left : (left : List Posting) (first : Posting) (run others : List Posting) (old new : Lists) → 1 ≤ length left → first ≡ get_or left 0 first
    → list_all (λ p. eq_by_cmp term_cmp first.0 p.0) run ≡ true → run ++ others ≡ take (length left - 1) (drop 1 left)
    → AreStruck others (struck first.0 (first.1 ∷ map (λ p. p.1) run) old) new → AreStruck left old new
strikes_left [] first run others old new some is h parts are = absurd (omega (arith, some))
strikes_left (p ∷ ps) first run others old new some is h parts are =
    subst (λ (x : Posting). AreStruck (x ∷ ps) old new) is (strikes_more first run others ps old new h (parts ∙ all_behind ps) are)

posting_under : (e s h : Bool) → ((e && s) || (s && h)) ≡ (s && (e || h))
posting_under true true h = refl
posting_under true false h = refl
posting_under false s h = refl

has-each : (ts : List Term) (r : List ℕ) (u : Term) (q : List ℕ) → has_posting u q (map (λ t. (t, r)) ts) ≡ (same q r && has_term u ts)
has-each [] r u q = and_none (same q r)
has-each (t ∷ ts) r u q =
    ap (λ b. (eq_by_cmp term_cmp u t && same q r) || b) (has-each ts r u q) ∙ posting_under (eq_by_cmp term_cmp u t) (same q r) (has_term u ts)

either_and : (a b h : Bool) → ((a && h) || (b && h)) ≡ ((a || b) && h)
either_and true true true = refl
either_and true true false = refl
either_and true false true = refl
either_and true false false = refl
either_and false b h = refl

-- the reference of one more entry
pub first_next : (made : List (List ℕ)) (n : ℕ) (e : List ℕ × Unit {0}) (left rest : Set) (all : List (List ℕ)) → n ≢ 0 → left ≡ e ∷ rest
    → made ++ take n (keys left) ≡ all → (made ++ e.0 ∷ []) ++ take (n - 1) (keys rest) ≡ all
first_next made n e left rest all h step so_far =
    append_assoc made (e.0 ∷ []) (take (n - 1) (keys rest))
    ∙ ap (λ l. made ++ l) (sym (take_next n e.0 (keys rest) h) ∙ ap (λ s. take n (keys s)) (sym step))
    ∙ so_far

-- the postings of one more reference
pub postings_next : (docs : Map Data) (found : List Posting) (rs : List (List ℕ)) (i : ℕ) (r : List ℕ) → i < length rs → r ≡ get_or rs i r
    → (found ++ map (λ t. (t, r)) (terms_at docs r)) ++ postings docs (drop (i + 1) rs) ≡ found ++ postings docs (drop i rs)
postings_next docs found rs i r h e =
    append_assoc found (map (λ t. (t, r)) (terms_at docs r)) (postings docs (drop (i + 1) rs))
    ∙ ap (λ n. found ++ postings docs (r ∷ drop n rs)) (one_more i)
    ∙ ap (λ l. found ++ postings docs l) (sym (drop-cons rs i r h ∙ ap (λ x. x ∷ drop (suc i) rs) (sym e)))
  where
    one_more : (n : ℕ) → n + 1 ≡ suc n
    one_more n = omega arith

-- a posting is among those of references exactly where the reference is, and its document has the term
has-postings : (docs : Map Data) (rs : List (List ℕ)) (u : Term) (q : List ℕ) → has_posting u q (postings docs rs) ≡ (among q rs && has_term u (terms_at docs q))
has-postings docs [] u q = refl
has-postings docs (r ∷ rs) u q =
    list_any-append (is_posting u q) (map (λ t. (t, r)) (terms_at docs r)) (postings docs rs)
    ∙ (λ i. (has-each (terms_at docs r) r u q ∙ here (same q r) refl) i || has-postings docs rs u q i)
    ∙ either_and (same q r) (among q rs) (has_term u (terms_at docs q))
  where
    here : (b : Bool) → same q r ≡ b → (same q r && has_term u (terms_at docs r)) ≡ (same q r && has_term u (terms_at docs q))
    here true e = ap (λ x. same q r && has_term u (terms_at docs x)) (sym (text_is q r e))
    here false e = (λ i. e i && has_term u (terms_at docs r)) ∙ (λ i. sym e i && has_term u (terms_at docs q))

-- ---- changes of documents

one_either : {X : Type 0} (b : Bool) (x : X) → cond b x x ≡ x
one_either true x = refl
one_either false x = refl

-- what a reference has once the documents of references are among others
got_all : (rs : List (List ℕ)) (docs m : Map Data) (q : List ℕ) → get (with_documents rs docs m) q ≡ cond (among q rs) (get docs q) (get m q)
got_all [] docs m q = refl
got_all (r ∷ rs) docs m q =
    got_all rs docs (with_document r (get docs r) m) q
    ∙ ap (cond (among q rs) (get docs q)) (got r (get docs r) m q)
    ∙ go (same q r) refl
  where
    go : (b : Bool) → same q r ≡ b → cond (among q rs) (get docs q) (cond b (get docs r) (get m q)) ≡ cond (b || among q rs) (get docs q) (get m q)
    go true e = ap (λ x. cond (among q rs) (get docs q) (get docs x)) (sym (text_is q r e)) ∙ one_either (among q rs) (get docs q)
    go false e = refl

struck_here : (n o : Bool) → (n || (not o && o)) ≡ n
struck_here true o = refl
struck_here false true = refl
struck_here false false = refl

-- with the terms of the listed documents struck and those of the present ones entered, the lists are those of the present ones
pub lists_keep : (docs listed : Map Data) (rs : List (List ℕ)) (former present : List Posting) (old between new : Lists)
    → IsPermutation (postings listed rs) former → IsPermutation (postings docs rs) present
    → AreLists listed old → AreStruck former old between → AreEntered present between new → AreLists (with_documents rs docs listed) new
lists_keep docs listed rs former present old between new f p are strikes enters t q =
    enters t q
    ∙ (λ i. sym (list_any-IsPermutation (is_posting t q) (postings docs rs) present p) i || (strikes t q ∙ gone) i)
    ∙ ap (λ b. b || (not (has_posting t q (postings listed rs)) && has_term t (terms_at listed q))) (has-postings docs rs t q)
    ∙ ap (λ b. (among q rs && has_term t (terms_at docs q)) || (not b && has_term t (terms_at listed q))) (has-postings listed rs t q)
    ∙ go (among q rs)
    ∙ ap (λ x. has_term t (unwrap_or (option_map document_terms x) [])) (sym (got_all rs docs listed q))
  where
    gone : (not (has_posting t q former) && has (set_at old t) q) ≡ (not (has_posting t q (postings listed rs)) && has_term t (terms_at listed q))
    gone i = not (sym (list_any-IsPermutation (is_posting t q) (postings listed rs) former f) i) && are t q i

    go : (b : Bool) → ((b && has_term t (terms_at docs q)) || (not (b && has_term t (terms_at listed q)) && has_term t (terms_at listed q)))
        ≡ has_term t (unwrap_or (option_map document_terms (cond b (get docs q) (get listed q))) [])
    go true = struck_here (has_term t (terms_at docs q)) (has_term t (terms_at listed q))
    go false = refl

-- ---- the documents that wait

-- once documents are listed, they need not be noted
pub agree_listed : (pending : Set) (docs listed : Map Data) (rs : List (List ℕ)) → AgreeBeyond pending docs listed
    → AgreeBeyond (without_references rs pending) docs (with_documents rs docs listed)
agree_listed pending docs listed rs agree q h =
    go (among q rs) (sym (has-without_references rs pending q) ∙ h) ∙ sym (got_all rs docs listed q)
  where
    go : (b : Bool) → (not b && has pending q) ≡ false → get docs q ≡ cond b (get docs q) (get listed q)
    go true i = refl
    go false i = agree q i
