-- The candidates of an order: those under one term after the other, and the rest.
use Rattle.std.proofs.Common.{◌≡◌, ℕ, zero, suc, Bool, true, false, cond, not, ◌&&◌, ◌||◌, List, [], ◌∷◌, ◌++◌, length, map, take, drop, Option, Some, None, Ordering, Less, Equal, Greater, refl, sym, ap, subst, ◌∙◌, true≢false}
use Rattle.std.specs.Prelude.{is_some, nat_eq, option_map, unwrap_or, slice_get}
use Rattle.std.specs.Option.{option_and_then}
use Rattle.std.specs.List.{cons_option, filter, filter_map, list_any, AllByRecursion}
use Rattle.std.specs.Ordering.{eq_by_cmp, nat_cmp, is_eq, is_lt, is_gt, ordering_then}
use Rattle.std.specs.Cmp.{IsTotalOrder, tied_itself}
use Rattle.std.specs.FinMap.Entries.{by_order, find-where_key, is_sorted}
use Rattle.std.proofs.lemmas.Slice.Eq.{bytes_eq-Decides}
use Rattle.cat_collections.specs.Table.{Map, find, get, keys, text_cmp, text_total, text_antisymmetric, same_text}
use Rattle.cat_collections.specs.Pairs.{pair_total, pair_antisymmetric}
use Rattle.cat_collections.specs.Places.{before}
use Rattle.cat_tree.specs.Data.{Data}
use Rattle.cat_state_parts.specs.Rows.{Row, folded, same_text as same_folded, value_fits, has_row, document_rows, values_at}
use Rattle.cat_search.specs.Terms.{Term, document_terms}
use Rattle.cat_search.specs.Filter.{is_match}
use Rattle.cat_search.specs.declared.condition.Condition.{Condition}
use Rattle.cat_search.specs.Index.{Set, Lists, AreLists, has, has_term, term_cmp, terms_at}
use Rattle.cat_pages.specs.Page.{Pair, Ranked, candidate, comes_before, in_page_order, is_accepted, is_after, is_falling, least, lesser, matching, ranked, value_of}
use Rattle.cat_pages.specs.declared.query.Query.{Query}
use Rattle.cat_pages.specs.declared.query.Cursor.{Cursor}
use Rattle.cat_pages.specs.declared.query.OrderBy.{OrderBy}
use Rattle.cat_pages.specs.Walked.{at_reference, candidates, chosen, end_of, is_behind, looked, matched, passed, rest_at, rest_start, start_of, unvalued, with_value, without_value, by_value, key_of, begins, ends, begin_at, end_at, span, behinds, AreAtKey, IsListed}
use Rattle.cat_pages.proofs.Chunks.{all_from, all_kept, both_hold, all_passing, same_kept, behind_is, InOrder, Rise, among, AreAmong, valued, whole_rising, whole_falling}
use Rattle.cat_pages.proofs.Sorts.{Sorted, sorted_is, sorted_kept, Seen, all_seen, between_is, is_between_by, both_are, same_keys}
use Rattle.cat_pages.proofs.Spans.{take_alike}
use Rattle.cat_search.proofs.Finds.{has_rows}

-- ---- lists

fused : {X Y : Type 0} (p : X → Bool) (f : X → Option Y) (xs : List X) → filter_map f (filter p xs) ≡ filter_map (λ x. cond (p x) (f x) None) xs
fused p f [] = refl
fused p f (x ∷ xs) = go (p x) (fused p f xs)
  where
    go : (b : Bool) → filter_map f (filter p xs) ≡ filter_map (λ y. cond (p y) (f y) None) xs → filter_map f (cond b (x ∷ filter p xs) (filter p xs)) ≡ cons_option (cond b (f x) None) (filter_map (λ y. cond (p y) (f y) None) xs)
    go true i = ap (cons_option (f x)) i
    go false i = i

sifted : {X : Type 0} (p : Ranked → Bool) (f : X → Option Ranked) (xs : List X) → filter p (filter_map f xs) ≡ filter_map (λ x. passed p (f x)) xs
sifted p f [] = refl
sifted p f (x ∷ xs) = go (f x) (sifted p f xs)
  where
    go : (o : Option Ranked) → filter p (filter_map f xs) ≡ filter_map (λ y. passed p (f y)) xs → filter p (cons_option o (filter_map f xs)) ≡ cons_option (passed p o) (filter_map (λ y. passed p (f y)) xs)
    go None i = i
    go (Some y) i = step (p y) i
      where
        step : (b : Bool) → filter p (filter_map f xs) ≡ filter_map (λ z. passed p (f z)) xs → cond b (y ∷ filter p (filter_map f xs)) (filter p (filter_map f xs)) ≡ cons_option (cond b (Some y) None) (filter_map (λ z. passed p (f z)) xs)
        step true j = ap (λ l. y ∷ l) j
        step false j = j

all_mapped : {X Y : Type 0} (P : X → Type 0) (Q : Y → Type 0) (f : X → Option Y) (xs : List X) → ((x : X) (y : Y) → P x → f x ≡ Some y → Q y) → AllByRecursion P xs → AllByRecursion Q (filter_map f xs)
all_mapped P Q f [] g h = tt
all_mapped {Y = Y} P Q f (x ∷ xs) g h = go (f x) refl (all_mapped P Q f xs g h.1)
  where
    go : (o : Option Y) → f x ≡ o → AllByRecursion Q (filter_map f xs) → AllByRecursion Q (cons_option o (filter_map f xs))
    go None e i = i
    go (Some y) e i = (g x y h.0 e, i)

-- ---- candidates

candidates_are : (q : Query) (docs : Map Data) → candidates q docs ≡ filter_map (matched q) docs
candidates_are q docs = fused (λ (p : Pair). is_accepted q.filters p.1) (candidate q.order q.cursor) docs

-- a candidate has its value, and follows the cursor
candidate_is : (q : Query) (p : Pair) (r : Ranked) → matched q p ≡ Some r → (r ≡ (value_of q.order p.1, p)) × (is_after (is_falling q.order) q.cursor (value_of q.order p.1, p.0) ≡ true)
candidate_is q p r e = go (is_accepted q.filters p.1) (is_after (is_falling q.order) q.cursor (value_of q.order p.1, p.0)) refl e
  where
    go : (a b : Bool) → is_after (is_falling q.order) q.cursor (value_of q.order p.1, p.0) ≡ b → cond a (cond b (Some (value_of q.order p.1, p)) None) None ≡ Some r
        → (r ≡ (value_of q.order p.1, p)) × (is_after (is_falling q.order) q.cursor (value_of q.order p.1, p.0) ≡ true)
    go true true h e = (sym (inside e), h)
      where
        inside : {x y : Ranked} → Some x ≡ Some y → x ≡ y
        inside e = cc
    go true false h e = absurd (true≢false (sym (ap is_some e)))
    go false b h e = absurd (true≢false (sym (ap is_some e)))

in_order_of : (q : Query) (docs : Map Data) → Sorted text_cmp docs → InOrder (filter_map (matched q) docs)
in_order_of q [] h = tt
in_order_of q (e ∷ es) h = go (matched q e) refl (in_order_of q es h.1)
  where
    go : (o : Option Ranked) → matched q e ≡ o → InOrder (filter_map (matched q) es) → InOrder (cons_option o (filter_map (matched q) es))
    go None i rest = rest
    go (Some r) i rest = (
      all_mapped (λ (f : Pair). text_cmp e.0 f.0 ≡ Less) (λ (y : Ranked). text_cmp r.1.0 y.1.0 ≡ Less) (matched q) es
          (λ x y l j. ap (λ (z : Ranked). text_cmp z.1.0 y.1.0) (candidate_is q e r i).0 ∙ ap (λ (z : Ranked). text_cmp e.0 z.1.0) (candidate_is q x y j).0 ∙ l) h.0,
      rest,
    )

pub candidates_in_order : (q : Query) (docs : Map Data) → is_sorted text_cmp docs ≡ true → InOrder (candidates q docs)
candidates_in_order q docs h = subst InOrder (sym (candidates_are q docs)) (in_order_of q docs (sorted_is text_cmp docs h))

-- ---- the term of a value

-- a row has the key and this value, in lower case
abbrev HasValue : List ℕ → List Row → List ℕ → Type 0
HasValue key rs v = (u : List ℕ) × ((v ≡ folded u) × (has_row key (Some u) rs ≡ true))

least_is : (key : List ℕ) (rs : List Row) (v : List ℕ) → least (values_at key rs) ≡ Some v → HasValue key rs v
least_is key [] v e = absurd (true≢false (sym (ap is_some e)))
least_is key (row ∷ rs) v e = go (same_folded key row.0) refl e (λ w k. least_is key rs w k)
  where
    mine : same_folded key row.0 ≡ true → has_row key (Some row.1) (row ∷ rs) ≡ true
    mine i = (λ j. (i j && (bytes_eq-Decides (folded row.1) (folded row.1)).1 refl j) || has_row key (Some row.1) rs)

    or_true : (b c : Bool) → c ≡ true → (b || c) ≡ true
    or_true true c h = refl
    or_true false c h = h

    later : (u : List ℕ) → has_row key (Some u) rs ≡ true → has_row key (Some u) (row ∷ rs) ≡ true
    later u h = or_true (same_folded key row.0 && value_fits (Some u) row.1) (has_row key (Some u) rs) h

    inside : {x y : List ℕ} → Some x ≡ Some y → x ≡ y
    inside e = cc

    pick : same_folded key row.0 ≡ true → (o : Option (List ℕ)) → least (values_at key rs) ≡ o → Some (lesser (folded row.1) o) ≡ Some v
        → ((w : List ℕ) → least (values_at key rs) ≡ Some w → HasValue key rs w) → HasValue key (row ∷ rs) v
    pick i None k e rec = (row.1, (sym (inside e), mine i))
    pick i (Some w) k e rec = one (text_cmp (folded row.1) w) (inside e)
      where
        one : (c : Ordering) → by_order c (folded row.1) w w ≡ v → HasValue key (row ∷ rs) v
        one Less f = (row.1, (sym f, mine i))
        one Equal f = let found = rec w k in (found.0, (sym f ∙ found.1.0, later found.0 found.1.1))
        one Greater f = let found = rec w k in (found.0, (sym f ∙ found.1.0, later found.0 found.1.1))

    go : (b : Bool) → same_folded key row.0 ≡ b → least (map (λ x. x.1) (cond b (row ∷ filter (λ x. same_folded key x.0) rs) (filter (λ x. same_folded key x.0) rs))) ≡ Some v
        → ((w : List ℕ) → least (values_at key rs) ≡ Some w → HasValue key rs w) → HasValue key (row ∷ rs) v
    go true i e rec = pick i (least (values_at key rs)) refl e rec
    go false i e rec = let found = rec v e in (found.0, (found.1.0, later found.0 found.1.1))

-- a document with a value has the value's term
pub value_term : (o : Option OrderBy) (d : Data) (v : List ℕ) → value_of o d ≡ Some v → has_term (key_of o, 61 ∷ v) (document_terms d) ≡ true
value_term None d v e = absurd (true≢false (sym (ap is_some e)))
value_term (Some o) d v e =
    let found = least_is o.key (document_rows d) v e in
    ap (λ w. has_term (folded o.key, 61 ∷ w) (document_terms d)) found.1.0 ∙ has_rows o.key (Some found.0) (document_rows d) ∙ found.1.1

-- ---- the documents under a term

look_ups : (docs es : Map Data) (g : Pair → Option Ranked) → Seen text_cmp docs es → filter_map (at_reference docs g) (keys es) ≡ filter_map g es
look_ups docs [] g s = refl
look_ups docs (e ∷ es) g s = (λ i. cons_option (option_and_then (λ d. g (e.0, d)) (s.0 i)) (look_ups docs es g s.1 i))

only : (g : Pair → Option Ranked) (p : Data → Bool) (docs : Map Data) → ((x : Pair) (r : Ranked) → g x ≡ Some r → p x.1 ≡ true) → filter_map g (filter (λ e. p e.1) docs) ≡ filter_map g docs
only g p [] h = refl
only g p (e ∷ es) h = go (p e.1) (g e) refl refl (only g p es h)
  where
    go : (b : Bool) (o : Option Ranked) → p e.1 ≡ b → g e ≡ o → filter_map g (filter (λ x. p x.1) es) ≡ filter_map g es → filter_map g (cond b (e ∷ filter (λ x. p x.1) es) (filter (λ x. p x.1) es)) ≡ cons_option o (filter_map g es)
    go true o i j rest = (λ k. cons_option (j k) (rest k))
    go false None i j rest = rest
    go false (Some r) i j rest = absurd (true≢false (sym (h e r j) ∙ i))

has_its_term : (q : Query) (b : List ℕ) (p : Pair) (r : Ranked) → chosen q b p ≡ Some r → has_term (key_of q.order, b) (document_terms p.1) ≡ true
has_its_term q b p r e = go (matched q p) refl e
  where
    valued_so : (s : Ranked) → matched q p ≡ Some s → is_behind b s.0 ≡ true → has_term (key_of q.order, b) (document_terms p.1) ≡ true
    valued_so s i h =
        let found = behind_is b s.0 h in
        ap (λ c. has_term (key_of q.order, c) (document_terms p.1)) found.1.1
        ∙ value_term q.order p.1 found.0 (ap (λ (z : Ranked). z.0) (sym (candidate_is q p s i).0) ∙ found.1.0)

    go : (o : Option Ranked) → matched q p ≡ o → passed (λ r. is_behind b r.0) o ≡ Some r → has_term (key_of q.order, b) (document_terms p.1) ≡ true
    go None i k = absurd (true≢false (sym (ap is_some k)))
    go (Some s) i k = test (is_behind b s.0) refl k
      where
        test : (t : Bool) → is_behind b s.0 ≡ t → cond t (Some s) None ≡ Some r → has_term (key_of q.order, b) (document_terms p.1) ≡ true
        test true h l = valued_so s i h
        test false h l = absurd (true≢false (sym (ap is_some l)))

by_keys : (q : Query) (docs : Map Data) (b : List ℕ) (s : Set) → looked q docs b s ≡ filter_map (at_reference docs (chosen q b)) (keys s)
by_keys q docs b [] = refl
by_keys q docs b (e ∷ es) = ap (cons_option (at_reference docs (chosen q b) e.0)) (by_keys q docs b es)

-- the references that are listed under a term are those of the documents that have it
keys_listed : (docs : Map Data) (t : Term) (s : Set) → ((r : List ℕ) → has s r ≡ has_term t (terms_at docs r)) → is_sorted text_cmp docs ≡ true → is_sorted text_cmp s ≡ true
    → keys s ≡ keys (filter (λ e. has_term t (document_terms e.1)) docs)
keys_listed docs t s are g h =
    same_keys text_cmp text_total text_antisymmetric s (filter (λ e. has s e.0) docs) (sorted_is text_cmp s h) (sorted_kept text_cmp (λ e. has s e.0) docs (sorted_is text_cmp docs g)) members
    ∙ ap keys
    (same_kept (λ (e : Pair). has s e.0) (λ e. has_term t (document_terms e.1)) docs
    (all_from (λ (e : Pair). get docs e.0 ≡ Some e.1) (λ e. has s e.0 ≡ has_term t (document_terms e.1)) docs
    (λ e k. are e.0 ∙ ap (λ o. has_term t (unwrap_or (option_map document_terms o) [])) k)
    (all_seen text_cmp text_total docs (sorted_is text_cmp docs g))))
  where
    both : (b : Bool) (x : Option Data) → b ≡ has_term t (unwrap_or (option_map document_terms x) []) → b ≡ is_some (cond b x None)
    both true None i = i
    both true (Some d) i = refl
    both false x i = refl

    members : (q : List ℕ) → is_some (get s q) ≡ is_some (get (filter (λ e. has s e.0) docs) q)
    members q =
        both (has s q) (get docs q) (are q)
        ∙ ap is_some (sym (find-where_key text_cmp (has s) q (λ x i. ap (has s) (sym (text_antisymmetric q x i))) docs))

-- those under a term are those with the value
pub looked_is : (q : Query) (docs : Map Data) (e : Term × Set) → is_sorted text_cmp docs ≡ true → is_sorted text_cmp e.1 ≡ true → IsListed docs e → e.0.0 ≡ key_of q.order
    → looked q docs e.0.1 e.1 ≡ with_value e.0.1 (candidates q docs)
looked_is q docs e g h listed at =
    by_keys q docs e.0.1 e.1
    ∙ ap (filter_map (at_reference docs (chosen q e.0.1))) (keys_listed docs e.0 e.1 listed g h)
    ∙ look_ups docs (filter (λ x. has_term e.0 (document_terms x.1)) docs) (chosen q e.0.1) (all_kept (λ (x : Pair). get docs x.0 ≡ Some x.1) (λ x. has_term e.0 (document_terms x.1)) docs (all_seen text_cmp text_total docs (sorted_is text_cmp docs g)))
    ∙ only (chosen q e.0.1) (λ d. has_term e.0 (document_terms d)) docs (λ p r k. ap (λ x. has_term (x, e.0.1) (document_terms p.1)) at ∙ has_its_term q e.0.1 p r k)
    ∙ sym (ap (with_value e.0.1) (candidates_are q docs) ∙ sifted (λ (r : Ranked). is_behind e.0.1 r.0) (matched q) docs)

-- ---- the rest

pub rest_is : (q : Query) (docs : Map Data) → filter_map (unvalued q) docs ≡ without_value (candidates q docs)
rest_is q docs = sym (ap without_value (candidates_are q docs) ∙ sifted (λ (r : Ranked). not (is_some r.0)) (matched q) docs)

-- a document without a value is no candidate before the cursor's place
pub skipped : (q : Query) (p : Pair) → is_after (is_falling q.order) q.cursor (None, p.0) ≡ false → None ≡ unvalued q p
skipped q p h = go (matched q p) refl
  where
    none : (r : Ranked) (o : Option (List ℕ)) → is_after (is_falling q.order) q.cursor (o, p.0) ≡ true → None ≡ passed (λ x. not (is_some x.0)) (Some (o, p))
    none r None a = absurd (true≢false (sym a ∙ h))
    none r (Some v) a = refl

    go : (o : Option Ranked) → matched q p ≡ o → None ≡ passed (λ r. not (is_some r.0)) o
    go None e = refl
    go (Some r) e = let is = candidate_is q p r e in none r (value_of q.order p.1) is.1 ∙ ap (λ x. passed (λ y. not (is_some y.0)) (Some x)) (sym is.0)

-- none of those with a reference below this one is such a candidate
skip_to : (q : Query) (k : List ℕ) (docs : Map Data) → ((e : Pair) → is_gt (text_cmp k e.0) ≡ true → None ≡ unvalued q e) → filter_map (unvalued q) docs ≡ filter_map (unvalued q) (drop (before text_cmp k docs) docs)
skip_to q k [] h = refl
skip_to q k (e ∷ es) h = go (is_gt (text_cmp k e.0)) refl (skip_to q k es h)
  where
    go : (b : Bool) → is_gt (text_cmp k e.0) ≡ b → filter_map (unvalued q) es ≡ filter_map (unvalued q) (drop (before text_cmp k es) es)
        → filter_map (unvalued q) (e ∷ es) ≡ filter_map (unvalued q) (drop (cond b (suc (before text_cmp k es)) 0) (e ∷ es))
    go true i rec = ap (λ o. cons_option o (filter_map (unvalued q) es)) (sym (h e i)) ∙ rec
    go false i rec = refl

-- the rest stands from its place on
pub rest_from : (q : Query) (docs : Map Data) → filter_map (unvalued q) (drop (rest_start q.cursor docs) docs) ≡ without_value (candidates q docs)
rest_from q docs = go q.cursor refl ∙ rest_is q docs
  where
    below : (o : Ordering) → is_gt o ≡ true → is_lt o ≡ false
    below Less h = absurd (true≢false (sym h))
    below Equal h = refl
    below Greater h = refl

    at : (c : Cursor) → q.cursor ≡ Some c → (o : Option (List ℕ)) → c.value ≡ o → filter_map (unvalued q) (drop (rest_at o c.reference docs) docs) ≡ filter_map (unvalued q) docs
    at c i None j =
        sym (skip_to q c.reference docs (λ e g. skipped q e
        (ap (λ x. is_after (is_falling q.order) x (None, e.0)) i ∙ ap (λ v. comes_before (is_falling q.order) (v, c.reference) (None, e.0)) j ∙ below (text_cmp c.reference e.0) g)))
    at c i (Some v) j = refl

    go : (c : Option Cursor) → q.cursor ≡ c → filter_map (unvalued q) (drop (rest_start c docs) docs) ≡ filter_map (unvalued q) docs
    go None i = refl
    go (Some c) i = at c i c.value refl

-- ---- the terms in which the values stand

term_total : IsTotalOrder term_cmp
term_total = pair_total text_total text_total

none_below : (v : List ℕ) → is_gt (text_cmp [] v) ≡ false
none_below [] = refl
none_below (x ∷ xs) = refl

begins_before : (f : Bool) (c : Option Cursor) (v r : List ℕ) → is_after f c (Some v, r) ≡ true → is_gt (text_cmp (begins f c) (61 ∷ v)) ≡ false
begins_before f None v r h = none_below v
begins_before f (Some c) v r h = go f c.value h
  where
    lower : (o : Ordering) (b : Bool) → by_order o true b false ≡ true → is_gt o ≡ false
    lower Less b h = refl
    lower Equal b h = refl
    lower Greater b h = absurd (true≢false (sym h))

    go : (f : Bool) (o : Option (List ℕ)) → comes_before f (o, c.reference) (Some v, r) ≡ true → is_gt (text_cmp (begin_at f o) (61 ∷ v)) ≡ false
    go f None h = absurd (true≢false (sym h))
    go true (Some w) h = none_below v
    go false (Some w) h = lower (text_cmp w v) (is_lt (text_cmp c.reference r)) h

longer : (w v : List ℕ) → is_lt (text_cmp w v) ≡ false → is_gt (text_cmp (w ++ 0 ∷ []) v) ≡ true
longer [] [] h = refl
longer [] (x ∷ xs) h = absurd (true≢false h)
longer (a ∷ rest) [] h = refl
longer (a ∷ rest) (x ∷ xs) h = go (nat_cmp a x) h (longer rest xs)
  where
    go : (o : Ordering) → is_lt (ordering_then o (text_cmp rest xs)) ≡ false → (is_lt (text_cmp rest xs) ≡ false → is_gt (text_cmp (rest ++ 0 ∷ []) xs) ≡ true) → is_gt (ordering_then o (text_cmp (rest ++ 0 ∷ []) xs)) ≡ true
    go Less h rec = absurd (true≢false h)
    go Equal h rec = rec h
    go Greater h rec = refl

ends_after : (f : Bool) (c : Option Cursor) (v r : List ℕ) → is_after f c (Some v, r) ≡ true → is_gt (text_cmp (ends f c) (61 ∷ v)) ≡ true
ends_after f None v r h = refl
ends_after f (Some c) v r h = go f c.value h
  where
    higher : (o : Ordering) (b : Bool) → by_order o false b true ≡ true → is_lt o ≡ false
    higher Less b h = absurd (true≢false (sym h))
    higher Equal b h = refl
    higher Greater b h = refl

    go : (f : Bool) (o : Option (List ℕ)) → comes_before f (o, c.reference) (Some v, r) ≡ true → is_gt (text_cmp (end_at f o) (61 ∷ v)) ≡ true
    go f None h = absurd (true≢false (sym h))
    go true (Some w) h = longer w v (higher (text_cmp w v) (is_lt (text_cmp c.reference r)) h)
    go false (Some w) h = refl

-- ---- the entries between the terms

-- the key's entries whose values may follow the cursor
abbrev pub entries : Query → Lists → Lists
entries q lists = span (start_of q lists) (end_of q lists) lists

-- the term stands between the two
abbrev is_near : Query → Term → Bool
is_near q t = is_between_by term_cmp (key_of q.order, begins (is_falling q.order) q.cursor) (key_of q.order, ends (is_falling q.order) q.cursor) t

entries_are : (q : Query) (lists : Lists) → is_sorted term_cmp lists ≡ true → entries q lists ≡ filter (λ e. is_near q e.0) lists
entries_are q lists h = between_is term_cmp term_total (key_of q.order, begins (is_falling q.order) q.cursor) (key_of q.order, ends (is_falling q.order) q.cursor) lists (sorted_is term_cmp lists h)

at_key : (key b c : List ℕ) (t : Term) → is_between_by term_cmp (key, b) (key, c) t ≡ true → t.0 ≡ key
at_key key b c t h = let parts = both_are (not (is_gt (term_cmp (key, b) t))) (is_gt (term_cmp (key, c) t)) h in go (text_cmp key t.0) refl parts.0 parts.1
  where
    go : (o : Ordering) → text_cmp key t.0 ≡ o → not (is_gt (ordering_then o (text_cmp b t.1))) ≡ true → is_gt (ordering_then o (text_cmp c t.1)) ≡ true → t.0 ≡ key
    go Less i j k = absurd (true≢false (sym k))
    go Equal i j k = sym (text_antisymmetric key t.0 i)
    go Greater i j k = absurd (true≢false (sym j))

-- all of them stand at the key
pub entries_at_key : (q : Query) (lists : Lists) → is_sorted term_cmp lists ≡ true → AreAtKey (key_of q.order) (entries q lists)
entries_at_key q lists h =
    subst (AreAtKey (key_of q.order)) (sym (entries_are q lists h))
    (all_from (λ (e : Term × Set). is_near q e.0 ≡ true) (λ e. e.0.0 ≡ key_of q.order) (filter (λ e. is_near q e.0) lists) (λ e k. at_key (key_of q.order) (begins (is_falling q.order) q.cursor) (ends (is_falling q.order) q.cursor) e.0 k)
    (all_passing (λ (e : Term × Set). is_near q e.0) lists))

rise_behinds : (key : List ℕ) (es : Lists) → Sorted term_cmp es → AreAtKey key es → Rise (behinds es)
rise_behinds key [] h k = tt
rise_behinds key (e ∷ es) h k = (above es h.0 k.1, rise_behinds key es h.1 k.1)
  where
    above : (fs : Lists) → AllByRecursion (λ f. term_cmp e.0 f.0 ≡ Less) fs → AreAtKey key fs → AllByRecursion (λ c. text_cmp e.0.1 c ≡ Less) (behinds fs)
    above [] h k = tt
    above (f ∷ fs) h l = (
      ap (λ o. ordering_then o (text_cmp e.0.1 f.0.1)) (sym ((λ i. text_cmp (k.0 i) (l.0 i)) ∙ tied_itself text_total key)) ∙ h.0,
      above fs h.1 l.1,
    )

term_is : (x y : Term) → eq_by_cmp term_cmp x y ≡ true → x ≡ y
term_is x y e = pair_antisymmetric text_antisymmetric text_antisymmetric x y (tied (term_cmp x y) e)
  where
    tied : (o : Ordering) → is_eq o ≡ true → o ≡ Equal
    tied Less e = absurd (true≢false (sym e))
    tied Equal e = refl
    tied Greater e = absurd (true≢false (sym e))

-- a value whose term has an entry stands among the entries between the terms
found_among : (q : Query) (key v : List ℕ) (es : Lists) → is_some (find term_cmp (key, 61 ∷ v) es) ≡ true → is_near q (key, 61 ∷ v) ≡ true
    → list_any (λ b. is_behind b (Some v)) (behinds (filter (λ e. is_near q e.0) es)) ≡ true
found_among q key v [] h k = absurd (true≢false (sym h))
found_among q key v (e ∷ es) h k = go (eq_by_cmp term_cmp (key, 61 ∷ v) e.0) refl h (λ i. found_among q key v es i k)
  where
    or_true : (b c : Bool) → c ≡ true → (b || c) ≡ true
    or_true true c h = refl
    or_true false c h = h

    later : (b : Bool) → list_any (λ c. is_behind c (Some v)) (behinds (filter (λ f. is_near q f.0) es)) ≡ true
        → list_any (λ c. is_behind c (Some v)) (behinds (cond b (e ∷ filter (λ f. is_near q f.0) es) (filter (λ f. is_near q f.0) es))) ≡ true
    later true i = or_true (is_behind e.0.1 (Some v)) (list_any (λ c. is_behind c (Some v)) (behinds (filter (λ f. is_near q f.0) es))) i
    later false i = i

    here : e.0 ≡ (key, 61 ∷ v) → list_any (λ c. is_behind c (Some v)) (behinds (cond (is_near q e.0) (e ∷ filter (λ f. is_near q f.0) es) (filter (λ f. is_near q f.0) es))) ≡ true
    here i =
        ap (λ b. list_any (λ c. is_behind c (Some v)) (behinds (cond b (e ∷ filter (λ f. is_near q f.0) es) (filter (λ f. is_near q f.0) es)))) (ap (is_near q) i ∙ k)
        ∙ ap (λ b. b || list_any (λ c. is_behind c (Some v)) (behinds (filter (λ f. is_near q f.0) es))) (ap (λ (t : Term). same_text t.1 (61 ∷ v)) i ∙ ap is_eq (tied_itself text_total (61 ∷ v)))

    go : (b : Bool) → eq_by_cmp term_cmp (key, 61 ∷ v) e.0 ≡ b → is_some (cond b (Some e.1) (find term_cmp (key, 61 ∷ v) es)) ≡ true
        → (is_some (find term_cmp (key, 61 ∷ v) es) ≡ true → list_any (λ c. is_behind c (Some v)) (behinds (filter (λ f. is_near q f.0) es)) ≡ true)
        → list_any (λ c. is_behind c (Some v)) (behinds (cond (is_near q e.0) (e ∷ filter (λ f. is_near q f.0) es) (filter (λ f. is_near q f.0) es))) ≡ true
    go true i j rec = here (sym (term_is (key, 61 ∷ v) e.0 i))
    go false i j rec = later (is_near q e.0) (rec j)

-- ---- the whole

module _ (q : Query) (docs : Map Data) (lists : Lists) (are : AreLists docs lists) (g : is_sorted text_cmp docs ≡ true) (h : is_sorted term_cmp lists ≡ true) where
  near : (v r : List ℕ) → is_after (is_falling q.order) q.cursor (Some v, r) ≡ true → is_near q (key_of q.order, 61 ∷ v) ≡ true
  near v r i =
      ap (λ o. not (is_gt (ordering_then o (text_cmp (begins (is_falling q.order) q.cursor) (61 ∷ v)))) && is_gt (ordering_then o (text_cmp (ends (is_falling q.order) q.cursor) (61 ∷ v)))) (tied_itself text_total (key_of q.order))
      ∙ (λ j. not (begins_before (is_falling q.order) q.cursor v r i j) && ends_after (is_falling q.order) q.cursor v r i j)

  has_entry : (p : Pair) (v : List ℕ) → get docs p.0 ≡ Some p.1 → value_of q.order p.1 ≡ Some v → is_some (find term_cmp (key_of q.order, 61 ∷ v) lists) ≡ true
  has_entry p v s e =
      some_list (find term_cmp (key_of q.order, 61 ∷ v) lists)
      (are (key_of q.order, 61 ∷ v) p.0
      ∙ ap (λ o. has_term (key_of q.order, 61 ∷ v) (unwrap_or (option_map document_terms o) [])) s
      ∙ value_term q.order p.1 v e)
    where
      some_list : (o : Option Set) → has (unwrap_or o []) p.0 ≡ true → is_some o ≡ true
      some_list None i = absurd (true≢false (sym i))
      some_list (Some x) i = refl

  candidate_among : (p : Pair) (r : Ranked) → get docs p.0 ≡ Some p.1 → matched q p ≡ Some r → is_some r.0 ≡ true → among (behinds (filter (λ e. is_near q e.0) lists)) r ≡ true
  candidate_among p r s m i =
      let is = candidate_is q p r m in
      ap (λ o. list_any (λ b. is_behind b o) (behinds (filter (λ e. is_near q e.0) lists))) (ap (λ (z : Ranked). z.0) is.0)
      ∙ go (value_of q.order p.1) refl (ap (λ (z : Ranked). is_some z.0) (sym is.0) ∙ i) is.1
    where
      go : (o : Option (List ℕ)) → value_of q.order p.1 ≡ o → is_some o ≡ true → is_after (is_falling q.order) q.cursor (o, p.0) ≡ true
          → list_any (λ b. is_behind b o) (behinds (filter (λ e. is_near q e.0) lists)) ≡ true
      go None e i a = absurd (true≢false (sym i))
      go (Some v) e i a = found_among q (key_of q.order) v lists (has_entry p v s e) (near v p.0 a)

  all_among : AreAmong (behinds (entries q lists)) (valued (candidates q docs))
  all_among =
      subst (λ es. AreAmong (behinds es) (valued (candidates q docs))) (sym (entries_are q lists h))
      (subst (λ cs. AreAmong (behinds (filter (λ e. is_near q e.0) lists)) (valued cs)) (sym (candidates_are q docs))
      (all_from (λ (r : Ranked). (is_some r.0 ≡ true → among (behinds (filter (λ e. is_near q e.0) lists)) r ≡ true) × (is_some r.0 ≡ true)) (λ r. among (behinds (filter (λ e. is_near q e.0) lists)) r ≡ true) (valued (filter_map (matched q) docs)) (λ r k. k.0 k.1)
      (both_hold (λ (r : Ranked). is_some r.0 ≡ true → among (behinds (filter (λ e. is_near q e.0) lists)) r ≡ true) (λ r. is_some r.0 ≡ true) (valued (filter_map (matched q) docs))
      (all_kept (λ (r : Ranked). is_some r.0 ≡ true → among (behinds (filter (λ e. is_near q e.0) lists)) r ≡ true) (λ r. is_some r.0) (filter_map (matched q) docs)
      (all_mapped (λ (p : Pair). get docs p.0 ≡ Some p.1) (λ (r : Ranked). is_some r.0 ≡ true → among (behinds (filter (λ e. is_near q e.0) lists)) r ≡ true) (matched q) docs (λ p r s m i. candidate_among p r s m i)
      (all_seen text_cmp text_total docs (sorted_is text_cmp docs g))))
      (all_passing (λ (r : Ranked). is_some r.0) (filter_map (matched q) docs)))))

  entries_rise : Rise (behinds (entries q lists))
  entries_rise =
      rise_behinds (key_of q.order) (entries q lists)
      (subst (Sorted term_cmp) (sym (entries_are q lists h)) (sorted_kept term_cmp (λ e. is_near q e.0) lists (sorted_is term_cmp lists h)))
      (entries_at_key q lists h)

  -- the order is that of the values, and then of those without one
  pub ranked_is : ranked q.order q.cursor (matching q.filters docs) ≡ by_value (is_falling q.order) (behinds (entries q lists)) (candidates q docs) ++ without_value (candidates q docs)
  ranked_is = go (is_falling q.order)
    where
      go : (f : Bool) → in_page_order f (candidates q docs) ≡ by_value f (behinds (entries q lists)) (candidates q docs) ++ without_value (candidates q docs)
      go true = whole_falling (behinds (entries q lists)) (candidates q docs) entries_rise (candidates_in_order q docs g) all_among
      go false = whole_rising (behinds (entries q lists)) (candidates q docs) entries_rise (candidates_in_order q docs g) all_among

-- ---- entries at places

all_of : {X : Type 0} (P : X → Type 0) (xs : List X) (i : ℕ) (x : X) → AllByRecursion P xs → slice_get xs i ≡ Some x → P x
all_of P [] i x h e = absurd (true≢false (sym (ap is_some e)))
all_of P (y ∷ ys) zero x h e = subst P (cc) h.0
all_of P (y ∷ ys) (suc i) x h e = all_of P ys i x h.1 e

-- an entry of the lists has just the references whose documents have its term
pub entry_listed : (docs : Map Data) (lists : Lists) (i : ℕ) (e : Term × Set) → AreLists docs lists → is_sorted term_cmp lists ≡ true → slice_get lists i ≡ Some e → IsListed docs e
entry_listed docs lists i e are h s = λ r.
    ap (λ o. has (unwrap_or o []) r) (sym (all_of (λ (x : Term × Set). find term_cmp x.0 lists ≡ Some x.1) lists i e (all_seen term_cmp term_total lists (sorted_is term_cmp lists h)) s))
    ∙ are e.0 r

-- the first documents, from those with a value and the rest
pub first_are : (q : Query) (docs : Map Data) (lists : Lists) (n : ℕ) (found more : List Ranked) → AreLists docs lists → is_sorted text_cmp docs ≡ true → is_sorted term_cmp lists ≡ true
    → take n found ≡ take n (by_value (is_falling q.order) (behinds (entries q lists)) (candidates q docs))
    → take n more ≡ take n (found ++ without_value (candidates q docs))
    → take n more ≡ take n (ranked q.order q.cursor (matching q.filters docs))
first_are q docs lists n found more are g h first all =
    all
    ∙ take_alike n found (by_value (is_falling q.order) (behinds (entries q lists)) (candidates q docs)) (without_value (candidates q docs)) first
    ∙ ap (take n) (sym (ranked_is q docs lists are g h))

-- all those between the two places stand at the key
pub at_key_between : (q : Query) (lists : Lists) (start end : ℕ) → start ≡ start_of q lists → end ≡ end_of q lists → is_sorted term_cmp lists ≡ true → AreAtKey (key_of q.order) (span start end lists)
at_key_between q lists start end from to h =
    subst (λ n. AreAtKey (key_of q.order) (span n end lists)) (sym from)
    (subst (λ n. AreAtKey (key_of q.order) (span (start_of q lists) n lists)) (sym to) (entries_at_key q lists h))

-- ---- how many match

all_pass : (p : Pair → Bool) (ps : List Pair) → ((x : Pair) → p x ≡ true) → ps ≡ filter p ps
all_pass p [] h = refl
all_pass p (x ∷ xs) h = ap (λ l. x ∷ l) (all_pass p xs h) ∙ ap (λ b. cond b (x ∷ filter p xs) (filter p xs)) (sym (h x))

-- without a filter all do
pub all_match : (fs : List (List Condition)) (docs : Map Data) → nat_eq (length fs) 0 ≡ true → length docs ≡ length (matching fs docs)
all_match fs docs h = ap length (all_pass (λ (p : Pair). is_accepted fs p.1) docs (λ p. ap (λ b. b || list_any (λ cs. is_match cs p.1) fs) h))
