-- That the references which are found through the lists are those of the documents that are accepted.
use Rattle.std.proofs.Common.{T, ◌≡◌, ℕ, zero, suc, ◌<◌, ◌≤◌, Bool, true, false, cond, not, ◌&&◌, ◌||◌, ◌==◌, List, [], ◌∷◌, length, map, get_or, Option, Some, None, Ordering, Less, Equal, Greater, refl, sym, ap, ◌∙◌, true≢false, arith}
use Rattle.std.specs.Prelude.{is_some, option_map, unwrap_or, bytes_eq, Result, Ok, Err, IfOk, OnOk, is_ok}
use Rattle.std.specs.List.{filter, list_any, list_all}
use Rattle.std.specs.Ordering.{eq_by_cmp, is_eq, ordering_then, is_lt}
use Rattle.std.specs.FinMap.Entries.{find-put, find-where_key, is_sorted, is_sorted-where_key, below_all, same_entries}
use Rattle.std.proofs.lemmas.Map.Text.{is_eq-slice_cmp}
use Rattle.cat_tree.specs.Data.{Data}
use Rattle.cat_collections.specs.Rows.{without}
use Rattle.cat_collections.specs.Table.{Map, get, keys, put, puts, text_cmp, text_total, text_antisymmetric}
use Rattle.cat_collections.proofs.Rising.{puts_rise, from_T}
use Rattle.cat_state_parts.specs.Rows.{Row, folded, same_text, fits, has_row, document_rows}
use Rattle.cat_search.specs.Filter.{holds, key_holds, accepts, is_match, is_accepted}
use Rattle.cat_search.specs.Terms.{term, condition_term, terms, document_terms}
use Rattle.cat_search.specs.Index.{Set, Lists, has, term_cmp, set_at, has_term, AreLists, AgreeBeyond, union, in_all, common, at_key, by_key, accepted, all_accepted, is_accepted_at, corrected_at, corrected, found, has_free, accepts_all}
use Rattle.cat_search.specs.declared.condition.Condition.{Condition}
use Rattle.cat_state_parts.proofs.Waiting.{same, text_is, has-put, has-without, either_false, longer}

pub to_T : (b : Bool) → b ≡ true → T b
to_T true h = tt
to_T false h = absurd (true≢false (sym h))

same_bytes : (x y : List ℕ) → same x y ≡ bytes_eq x y
same_bytes x y = is_eq-slice_cmp x y

or_none : (b : Bool) → (b || false) ≡ b
or_none true = refl
or_none false = refl

or_swap : (a b c : Bool) → ((a || b) || c) ≡ (b || (a || c))
or_swap true true c = refl
or_swap true false c = refl
or_swap false true c = refl
or_swap false false c = refl

or_group : (a b c : Bool) → ((a || b) || c) ≡ (a || (b || c))
or_group true b c = refl
or_group false b c = refl

and_none : (b : Bool) → (b && false) ≡ false
and_none true = refl
and_none false = refl

-- ---- a term stands for a row that a condition asks for

both_tie : (o p : Ordering) → is_eq (ordering_then o p) ≡ (is_eq o && is_eq p)
both_tie Less p = refl
both_tie Equal p = refl
both_tie Greater p = refl

row_fits : (key : List ℕ) (value : Option (List ℕ)) (row : Row)
    → (eq_by_cmp term_cmp (term key value) (term row.0 None) || eq_by_cmp term_cmp (term key value) (term row.0 (Some row.1))) ≡ fits key value row
row_fits key None row =
    (λ i. both_tie (text_cmp (folded key) (folded row.0)) Equal i || both_tie (text_cmp (folded key) (folded row.0)) Less i)
    ∙ go (same (folded key) (folded row.0)) (bytes_eq (folded key) (folded row.0)) (same_bytes (folded key) (folded row.0))
  where
    go : (a b : Bool) → a ≡ b → ((a && true) || (a && false)) ≡ (b && true)
    go true b e = ap (λ c. c && true) e
    go false b e = ap (λ c. c && true) e
row_fits key (Some v) row =
    (λ i. both_tie (text_cmp (folded key) (folded row.0)) Greater i || both_tie (text_cmp (folded key) (folded row.0)) (text_cmp (61 ∷ folded v) (61 ∷ folded row.1)) i)
    ∙ go (same (folded key) (folded row.0)) (bytes_eq (folded key) (folded row.0)) (same (folded v) (folded row.1)) (bytes_eq (folded v) (folded row.1))
    (same_bytes (folded key) (folded row.0)) (same_bytes (folded v) (folded row.1))
  where
    go : (a b c d : Bool) → a ≡ b → c ≡ d → ((a && false) || (a && c)) ≡ (b && d)
    go true b c d e f = (λ i. e i && f i)
    go false b c d e f = (λ i. e i && f i)

pub has_rows : (key : List ℕ) (value : Option (List ℕ)) (rs : List Row) → has_term (term key value) (terms rs) ≡ has_row key value rs
has_rows key value [] = refl
has_rows key value (row ∷ rs) =
    sym (or_group (eq_by_cmp term_cmp (term key value) (term row.0 None)) (eq_by_cmp term_cmp (term key value) (term row.0 (Some row.1))) (has_term (term key value) (terms rs)))
    ∙ (λ i. row_fits key value row i || has_rows key value rs i)

-- the rows of a reference's document, if it has one
abbrev pub rows_at : Map Data → List ℕ → List Row
rows_at docs q = unwrap_or (option_map document_rows (get docs q)) []

terms_rows : (x : Option Data) → unwrap_or (option_map document_terms x) [] ≡ terms (unwrap_or (option_map document_rows x) [])
terms_rows None = refl
terms_rows (Some d) = refl

module _ (docs : Map Data) (lists : Lists) (are : AreLists docs lists) where
  -- a reference stands under a condition's term exactly where the condition holds of its document
  under_term : (c : Condition) (q : List ℕ) → has (set_at lists (condition_term c)) q ≡ holds (rows_at docs q) c
  under_term c q = are (condition_term c) q ∙ ap (has_term (condition_term c)) (terms_rows (get docs q)) ∙ has_rows c.key c.value (rows_at docs q)

-- ---- unions

has-puts : (es m : Set) (q : List ℕ) → has (puts text_cmp es m) q ≡ (has m q || has es q)
has-puts [] m q = sym (or_none (has m q))
has-puts (e ∷ es) m q =
    has-puts es (put text_cmp e.0 e.1 m) q
    ∙ ap (λ b. b || has es q) (has-put e.0 e.1 m q)
    ∙ or_swap (same q e.0) (has m q) (has es q)
    ∙ ap (λ b. has m q || b) (go (same q e.0))
  where
    go : (b : Bool) → (b || has es q) ≡ is_some (cond b (Some e.1) (get es q))
    go true = refl
    go false = refl

pub has-union : (s u : Set) (q : List ℕ) → has (union s u) q ≡ (has s q || has u q)
has-union s u q = has-puts u s q

-- ---- sets with the same references are the same

alike : (x y : Option (Unit {0})) → is_some x ≡ is_some y → x ≡ y
alike None None e = refl
alike None (Some v) e = absurd (true≢false (sym e))
alike (Some u) None e = absurd (true≢false e)
alike (Some u) (Some v) e = refl

pub same_sets : (s u : Set) → is_sorted text_cmp s ≡ true → is_sorted text_cmp u ≡ true → ((q : List ℕ) → has s q ≡ has u q) → s ≡ u
same_sets s u g h is = same_entries text_cmp text_total text_antisymmetric s u (to_T _ g) (to_T _ h) (λ q. alike (get s q) (get u q) (is q))

or_turned : (a b : Bool) → (a || b) ≡ (b || a)
or_turned true true = refl
or_turned true false = refl
or_turned false true = refl
or_turned false false = refl

-- it is all one which of two sets is put into the other
pub union_turned : (s u : Set) → is_sorted text_cmp s ≡ true → is_sorted text_cmp u ≡ true → union s u ≡ union u s
union_turned s u g h =
    same_sets (union s u) (union u s) (puts_rise text_total u s g) (puts_rise text_total s u h)
    (λ q. has-union s u q ∙ or_turned (has s q) (has u q) ∙ sym (has-union u s q))

-- ---- what several sets have in common

only_where : (a b : Bool) (x : Option (Unit {0})) → is_some x ≡ b → is_some (cond a x None) ≡ (a && b)
only_where true b x e = e
only_where false b x e = refl

has-kept : (p : List ℕ → Bool) (s : Set) (q : List ℕ) → has (filter (λ e. p e.0) s) q ≡ (p q && has s q)
has-kept p s q = ap is_some (find-where_key text_cmp p q (λ x e. ap p (sym (text_antisymmetric q x e))) s) ∙ only_where (p q) (has s q) (get s q) refl

covers : (a b : Bool) → (a ≡ true → b ≡ true) → (a && b) ≡ a
covers true b h = h refl
covers false b h = refl

in_all_at : (ss : List Set) (k : ℕ) (s : Set) (q : List ℕ) → k < length ss → s ≡ get_or ss k s → in_all ss q ≡ true → has s q ≡ true
in_all_at [] k s q h e is = absurd (omega arith)
in_all_at (u ∷ us) zero s q h e is = ap (λ v. has v q) e ∙ go (has u q) (in_all us q) is
  where
    go : (a b : Bool) → (a && b) ≡ true → a ≡ true
    go true b i = refl
    go false b i = i
in_all_at (u ∷ us) (suc k) s q h e is = in_all_at us k s q (omega arith) e (go (has u q) (in_all us q) is)
  where
    go : (a b : Bool) → (a && b) ≡ true → b ≡ true
    go true b i = i
    go false b i = absurd (true≢false (sym i))

has-among : (ss : List Set) (k : ℕ) (s : Set) (q : List ℕ) → k < length ss → s ≡ get_or ss k s → has (filter (λ e. in_all ss e.0) s) q ≡ in_all ss q
has-among ss k s q h e = has-kept (in_all ss) s q ∙ covers (in_all ss q) (has s q) (in_all_at ss k s q h e)

pub kept_most : (p : List ℕ → Bool) (s : Set) (n : ℕ) → length s ≤ n → length (filter (λ e. p e.0) s) ≤ n
kept_most p [] n h = h
kept_most p (e ∷ es) n h = go (p e.0) n h (λ m i. kept_most p es m i)
  where
    go : (b : Bool) (n : ℕ) → suc (length es) ≤ n → ((m : ℕ) → length es ≤ m → length (filter (λ x. p x.0) es) ≤ m) → length (cond b (e ∷ filter (λ x. p x.0) es) (filter (λ x. p x.0) es)) ≤ n
    go true n h later = let few : length (filter (λ x. p x.0) es) ≤ length es = later (length es) (omega arith) in omega (arith, few, h)
    go false n h later = later n (omega (arith, h))

pub kept_rises : (p : List ℕ → Bool) (s : Set) → is_sorted text_cmp s ≡ true → is_sorted text_cmp (filter (λ e. p e.0) s) ≡ true
kept_rises p s h = from_T _ (is_sorted-where_key text_cmp p s (to_T _ h))

-- it is all one in which of the sets the others are looked up
common_in : (s : Set) (ss : List Set) (k : ℕ) (u : Set) → k < length (s ∷ ss) → u ≡ get_or (s ∷ ss) k u → is_sorted text_cmp s ≡ true → is_sorted text_cmp u ≡ true
    → filter (λ e. in_all (s ∷ ss) e.0) u ≡ common (s ∷ ss)
common_in s ss k u h e g i =
    same_sets _ _ (kept_rises (in_all (s ∷ ss)) u i) (kept_rises (in_all (s ∷ ss)) s g)
    (λ q. has-among (s ∷ ss) k u q h e ∙ sym (has-among (s ∷ ss) 0 s q (omega arith) refl))

pub common_from : (ss : List Set) (k : ℕ) (s u : Set) → k < length ss → s ≡ get_or ss 0 s → u ≡ get_or ss k u → is_sorted text_cmp s ≡ true → is_sorted text_cmp u ≡ true
    → filter (λ e. in_all ss e.0) u ≡ common ss
common_from [] k s u h d e g i = absurd (omega arith)
common_from (v ∷ vs) k s u h d e g i = common_in v vs k u h e (ap (is_sorted text_cmp) (sym d) ∙ g) i

-- one set has all of itself in common
pub common_one : (s : Set) → is_sorted text_cmp s ≡ true → s ≡ common (s ∷ [])
common_one s g =
    same_sets s (common (s ∷ [])) g (kept_rises (in_all (s ∷ [])) s g)
    (λ q. go (has s q) ∙ sym (has-among (s ∷ []) 0 s q (omega arith) refl))
  where
    go : (b : Bool) → b ≡ (b && true)
    go true = refl
    go false = refl

-- a filter with conditions says nothing of whether another has none
no_more : (c : Condition) (cs : List Condition) (fs : List (List Condition)) (b : Bool) → has_free ((c ∷ cs) ∷ fs) ≡ b → has_free fs ≡ b
no_more c cs fs b h = ap (λ t. t || has_free fs) (sym (longer (length cs))) ∙ h

-- ---- what is found at keys

one_of : (b : Bool) (s : Set) (x : Option Set) → unwrap_or (cond b (Some s) x) [] ≡ cond b s (unwrap_or x [])
one_of true s x = refl
one_of false s x = refl

module _ (docs : Map Data) (lists : Lists) (are : AreLists docs lists) where
  -- a reference is at a key exactly where one of the conditions with the key holds
  at_key_holds : (cs : List Condition) (key : List ℕ) (q : List ℕ) → has (at_key (by_key lists cs) key) q ≡ key_holds (rows_at docs q) cs key
  at_key_holds [] key q = refl
  at_key_holds (c ∷ cs) key q =
      ap (λ s. has s q) (ap (λ o. unwrap_or o []) (find-put text_cmp text_total (folded key) (folded c.key) here (by_key lists cs)) ∙ one_of (same (folded key) (folded c.key)) here (get (by_key lists cs) (folded key)))
      ∙ go (same (folded key) (folded c.key)) (same_text key c.key) refl (same_bytes (folded key) (folded c.key)) (at_key_holds cs key q)
    where
      here : Set
      here = union (set_at lists (condition_term c)) (at_key (by_key lists cs) c.key)

      go : (a b : Bool) → same (folded key) (folded c.key) ≡ a → a ≡ b → has (at_key (by_key lists cs) key) q ≡ key_holds (rows_at docs q) cs key
          → has (cond a here (at_key (by_key lists cs) key)) q ≡ ((b && holds (rows_at docs q) c) || key_holds (rows_at docs q) cs key)
      go true true e f rest =
          has-union (set_at lists (condition_term c)) (at_key (by_key lists cs) c.key) q
          ∙ (λ i. under_term docs lists are c q i || has (unwrap_or (get (by_key lists cs) (sym (text_is (folded key) (folded c.key) e) i)) []) q)
          ∙ ap (λ b. holds (rows_at docs q) c || b) rest
      go true false e f rest = absurd (true≢false f)
      go false true e f rest = absurd (true≢false (sym f))
      go false false e f rest = rest

  all_at_keys : (all cs : List Condition) (q : List ℕ) → in_all (map (λ c. at_key (by_key lists all) c.key) cs) q ≡ list_all (λ c. key_holds (rows_at docs q) all c.key) cs
  all_at_keys all [] q = refl
  all_at_keys all (c ∷ cs) q = (λ i. at_key_holds all c.key q i && all_at_keys all cs q i)

  -- a reference is found for a filter with conditions exactly where the filter accepts its rows
  has-accepted : (c : Condition) (cs : List Condition) (q : List ℕ) → has (accepted lists (c ∷ cs)) q ≡ accepts (c ∷ cs) (rows_at docs q)
  has-accepted c cs q =
      has-among (map (λ d. at_key (by_key lists (c ∷ cs)) d.key) (c ∷ cs)) 0 (at_key (by_key lists (c ∷ cs)) c.key) q (omega arith) refl
      ∙ all_at_keys (c ∷ cs) (c ∷ cs) q

  has-all_accepted : (fs : List (List Condition)) (s : Set) (q : List ℕ) → has_free fs ≡ false
      → has (all_accepted lists fs s) q ≡ (has s q || list_any (λ cs. accepts cs (rows_at docs q)) fs)
  has-all_accepted [] s q h = sym (or_none (has s q))
  has-all_accepted ([] ∷ fs) s q h = absurd (true≢false h)
  has-all_accepted ((c ∷ cs) ∷ fs) s q h =
      has-all_accepted fs (union s (accepted lists (c ∷ cs))) q (no_more c cs fs false h)
      ∙ ap (λ b. b || list_any (λ ds. accepts ds (rows_at docs q)) fs) (has-union s (accepted lists (c ∷ cs)) q ∙ ap (λ b. has s q || b) (has-accepted c cs q))
      ∙ or_group (has s q) (accepts (c ∷ cs) (rows_at docs q)) (list_any (λ ds. accepts ds (rows_at docs q)) fs)

-- ---- documents without rows are accepted by no condition

no_row : (cs : List Condition) (key : List ℕ) → key_holds [] cs key ≡ false
no_row [] key = refl
no_row (c ∷ cs) key = (λ i. and_none (same_text key c.key) i || no_row cs key i)

none_accepted : (fs : List (List Condition)) → has_free fs ≡ false → list_any (λ cs. accepts cs []) fs ≡ false
none_accepted [] h = refl
none_accepted ([] ∷ fs) h = absurd (true≢false h)
none_accepted ((c ∷ cs) ∷ fs) h =
    (λ i. (no_row (c ∷ cs) c.key i && list_all (λ d. key_holds [] (c ∷ cs) d.key) cs) || none_accepted fs (no_more c cs fs false h) i)

-- ---- the references of the documents that are accepted

-- the references as a set
abbrev as_set : Map Data → Set
as_set docs = map (λ e. (e.0, tt {0})) docs

keys_as_set : (docs : Map Data) → keys (as_set docs) ≡ keys docs
keys_as_set [] = refl
keys_as_set (e ∷ es) = ap (λ l. e.0 ∷ l) (keys_as_set es)

below_as_set : (x : List ℕ) (docs : Map Data) → below_all text_cmp x (as_set docs) ≡ below_all text_cmp x docs
below_as_set x [] = refl
below_as_set x (e ∷ es) = ap (λ b. is_lt (text_cmp x e.0) && b) (below_as_set x es)

sorted_as_set : (docs : Map Data) → is_sorted text_cmp (as_set docs) ≡ is_sorted text_cmp docs
sorted_as_set [] = refl
sorted_as_set (e ∷ es) = (λ i. below_as_set e.0 es i && sorted_as_set es i)

has-as_set : (docs : Map Data) (q : List ℕ) → has (as_set docs) q ≡ is_some (get docs q)
has-as_set [] q = refl
has-as_set (e ∷ es) q = go (same q e.0) (has-as_set es q)
  where
    go : (b : Bool) → is_some (get (as_set es) q) ≡ is_some (get es q) → is_some (cond b (Some (tt {0})) (get (as_set es) q)) ≡ is_some (cond b (Some e.1) (get es q))
    go true rest = refl
    go false rest = rest

pub first_true : (a b : Bool) → (a && b) ≡ true → a ≡ true
first_true true b e = refl
first_true false b e = e

pub second_true : (a b : Bool) → (a && b) ≡ true → b ≡ true
second_true true b e = e
second_true false b e = absurd (true≢false (sym e))

-- a reference below all others isn't among them
below_none : (x : List ℕ) (docs : Map Data) → below_all text_cmp x docs ≡ true → get docs x ≡ None
below_none x [] h = refl
below_none x (e ∷ es) h = go (text_cmp x e.0) h (λ i. below_none x es i)
  where
    go : (o : Ordering) → (is_lt o && below_all text_cmp x es) ≡ true → (below_all text_cmp x es ≡ true → get es x ≡ None) → cond (is_eq o) (Some e.1) (get es x) ≡ None
    go Less i later = later i
    go Equal i later = absurd (true≢false (sym i))
    go Greater i later = absurd (true≢false (sym i))

module _ (p : Data → Bool) where
  -- the documents that pass
  abbrev passing : Map Data → Map Data
  passing docs = filter (λ e. p e.1) docs

  none_passing : (q : List ℕ) (docs : Map Data) → get docs q ≡ None → get (passing docs) q ≡ None
  none_passing q [] h = refl
  none_passing q (e ∷ es) h = go (same q e.0) refl h (p e.1) (λ k. none_passing q es k)
    where
      go : (b : Bool) → same q e.0 ≡ b → cond b (Some e.1) (get es q) ≡ None → (c : Bool) → (get es q ≡ None → get (passing es) q ≡ None) → get (cond c (e ∷ passing es) (passing es)) q ≡ None
      go true i h c later = absurd (true≢false (ap is_some h))
      go false i h true later = ap (λ b. cond b (Some e.1) (get (passing es) q)) i ∙ later h
      go false i h false later = later h

  has-passing : (docs : Map Data) (q : List ℕ) → is_sorted text_cmp docs ≡ true → is_some (get (passing docs) q) ≡ unwrap_or (option_map p (get docs q)) false
  has-passing [] q h = refl
  has-passing (e ∷ es) q h =
      go (same q e.0) (p e.1) refl refl (first_true (below_all text_cmp e.0 es) (is_sorted text_cmp es) h)
      (has-passing es q (second_true (below_all text_cmp e.0 es) (is_sorted text_cmp es) h))
    where
      go : (b c : Bool) → same q e.0 ≡ b → p e.1 ≡ c → below_all text_cmp e.0 es ≡ true → is_some (get (passing es) q) ≡ unwrap_or (option_map p (get es q)) false
          → is_some (get (cond c (e ∷ passing es) (passing es)) q) ≡ unwrap_or (option_map p (cond b (Some e.1) (get es q))) false
      go true true i j low rest = ap (λ b. is_some (cond b (Some e.1) (get (passing es) q))) i ∙ sym j
      go true false i j low rest = ap is_some (none_passing q es (ap (get es) (text_is q e.0 i) ∙ below_none e.0 es low)) ∙ sym j
      go false true i j low rest = ap (λ b. is_some (cond b (Some e.1) (get (passing es) q))) i ∙ rest
      go false false i j low rest = rest

  below_passing : (x : List ℕ) (docs : Map Data) → below_all text_cmp x docs ≡ true → below_all text_cmp x (passing docs) ≡ true
  below_passing x [] h = refl
  below_passing x (e ∷ es) h =
      go (p e.1) (first_true (is_lt (text_cmp x e.0)) (below_all text_cmp x es) h) (below_passing x es (second_true (is_lt (text_cmp x e.0)) (below_all text_cmp x es) h))
    where
      go : (c : Bool) → is_lt (text_cmp x e.0) ≡ true → below_all text_cmp x (passing es) ≡ true → below_all text_cmp x (cond c (e ∷ passing es) (passing es)) ≡ true
      go true low rest = (λ i. low i && rest i)
      go false low rest = rest

  sorted_passing : (docs : Map Data) → is_sorted text_cmp docs ≡ true → is_sorted text_cmp (passing docs) ≡ true
  sorted_passing [] h = refl
  sorted_passing (e ∷ es) h =
      go (p e.1) (below_passing e.0 es (first_true (below_all text_cmp e.0 es) (is_sorted text_cmp es) h))
      (sorted_passing es (second_true (below_all text_cmp e.0 es) (is_sorted text_cmp es) h))
    where
      go : (c : Bool) → below_all text_cmp e.0 (passing es) ≡ true → is_sorted text_cmp (passing es) ≡ true → is_sorted text_cmp (cond c (e ∷ passing es) (passing es)) ≡ true
      go true low rest = (λ i. low i && rest i)
      go false low rest = rest

  pub all_passing : ((d : Data) → p d ≡ true) → (docs : Map Data) → passing docs ≡ docs
  all_passing h [] = refl
  all_passing h (e ∷ es) = ap (λ c. cond c (e ∷ passing es) (passing es)) (h e.1) ∙ ap (λ l. e ∷ l) (all_passing h es)

-- ---- the correction

or_where : (a h : Bool) → (a || h) ≡ cond a true h
or_where true h = refl
or_where false h = refl

unless : (a h : Bool) → (not a && h) ≡ cond a false h
unless true h = refl
unless false h = refl

has-corrected_at : (fs : List (List Condition)) (docs : Map Data) (r : List ℕ) (s : Set) (q : List ℕ)
    → has (corrected_at fs docs r s) q ≡ cond (same q r) (is_accepted_at fs docs r) (has s q)
has-corrected_at fs docs r s q = go (is_accepted_at fs docs r)
  where
    go : (b : Bool) → has (cond b (put text_cmp r (tt {0}) s) (without text_cmp r s)) q ≡ cond (same q r) b (has s q)
    go true = has-put r (tt {0}) s q ∙ or_where (same q r) (has s q)
    go false = has-without r s q ∙ unless (same q r) (has s q)

-- a pending reference is found where its document is accepted, and another where it was
has-corrected : (fs : List (List Condition)) (docs : Map Data) (pending s : Set) (q : List ℕ)
    → has (corrected fs docs pending s) q ≡ cond (has pending q) (is_accepted_at fs docs q) (has s q)
has-corrected fs docs [] s q = refl
has-corrected fs docs (e ∷ es) s q =
    has-corrected fs docs es (corrected_at fs docs e.0 s) q
    ∙ ap (cond (has es q) (is_accepted_at fs docs q)) (has-corrected_at fs docs e.0 s q)
    ∙ go (same q e.0) refl (get es q)
  where
    go : (b : Bool) → same q e.0 ≡ b → (x : Option (Unit {0}))
        → cond (is_some x) (is_accepted_at fs docs q) (cond b (is_accepted_at fs docs e.0) (has s q)) ≡ cond (is_some (cond b (Some e.1) x)) (is_accepted_at fs docs q) (has s q)
    go true i None = ap (is_accepted_at fs docs) (sym (text_is q e.0 i))
    go true i (Some u) = refl
    go false i x = refl

-- ---- the whole

accepted_at : (fs : List (List Condition)) (x : Option Data) → (length fs == 0) ≡ false → has_free fs ≡ false
    → list_any (λ cs. accepts cs (unwrap_or (option_map document_rows x) [])) fs ≡ unwrap_or (option_map (is_accepted fs) x) false
accepted_at fs None l h = none_accepted fs h
accepted_at fs (Some d) l h = ap (λ b. b || list_any (λ cs. is_match cs d) fs) (sym l)

-- where a reference is found, once corrected, its document is accepted
found_at : (docs listed : Map Data) (pending : Set) (lists : Lists) (fs : List (List Condition)) → AreLists listed lists → AgreeBeyond pending docs listed
    → (length fs == 0) ≡ false → has_free fs ≡ false → (q : List ℕ)
    → cond (has pending q) (is_accepted_at fs docs q) (has (all_accepted lists fs []) q) ≡ is_accepted_at fs docs q
found_at docs listed pending lists fs are agree l h q = go (has pending q) refl
  where
    go : (b : Bool) → has pending q ≡ b → cond b (is_accepted_at fs docs q) (has (all_accepted lists fs []) q) ≡ is_accepted_at fs docs q
    go true e = refl
    go false e =
        has-all_accepted listed lists are fs [] q h
        ∙ accepted_at fs (get listed q) l h
        ∙ ap (λ x. unwrap_or (option_map (is_accepted fs) x) false) (sym (agree q e))

-- what is found for filters with conditions
pub found_keys : (docs listed : Map Data) (pending : Set) (lists : Lists) (fs : List (List Condition)) → AreLists listed lists × AgreeBeyond pending docs listed
    → is_sorted text_cmp docs ≡ true → is_sorted text_cmp (corrected fs docs pending (all_accepted lists fs [])) ≡ true
    → accepts_all fs ≡ false → keys (corrected fs docs pending (all_accepted lists fs [])) ≡ found fs docs
found_keys docs listed pending lists fs are g h free =
    let both = either_false (length fs == 0) (has_free fs) free in
    let kept : Map Data = filter (λ e. is_accepted fs e.1) docs in
    ap keys (same_sets (corrected fs docs pending (all_accepted lists fs [])) (as_set kept) h (sorted_as_set kept ∙ sorted_passing (is_accepted fs) docs g)
    (λ q. has-corrected fs docs pending (all_accepted lists fs []) q
    ∙ found_at docs listed pending lists fs are.0 are.1 both.0 both.1 q
    ∙ sym (has-as_set kept q ∙ has-passing (is_accepted fs) docs q g)))
    ∙ keys_as_set kept

free_accepts : (fs : List (List Condition)) (d : Data) → has_free fs ≡ true → list_any (λ cs. is_match cs d) fs ≡ true
free_accepts [] d h = absurd (true≢false (sym h))
free_accepts ([] ∷ fs) d h = refl
free_accepts ((c ∷ cs) ∷ fs) d h = go (is_match (c ∷ cs) d) (free_accepts fs d (no_more c cs fs true h))
  where
    go : (a : Bool) → list_any (λ ds. is_match ds d) fs ≡ true → (a || list_any (λ ds. is_match ds d) fs) ≡ true
    go true e = refl
    go false e = e

pub accepts_any : (fs : List (List Condition)) (d : Data) → accepts_all fs ≡ true → is_accepted fs d ≡ true
accepts_any [] d h = refl
accepts_any (cs ∷ fs) d h =
    ap (λ b. b || list_any (λ ds. is_match ds d) (cs ∷ fs)) (longer (length fs))
    ∙ free_accepts (cs ∷ fs) d (ap (λ b. b || has_free (cs ∷ fs)) (sym (longer (length fs))) ∙ h)

-- without conditions all documents are found
pub all_found : (docs : Map Data) (fs : List (List Condition)) → accepts_all fs ≡ true → keys docs ≡ found fs docs
all_found docs fs h = ap keys (sym (all_passing (is_accepted fs) (λ d. accepts_any fs d h) docs))

-- a value that is one thing is any other that equals it
pub given : {X E : Type 0} (r : Result X E) (x y : X) → x ≡ y → IfOk r (λ z. z ≡ x) → IfOk r (λ z. z ≡ y)
given (Ok z) x y e h = h ∙ e
given (Err f) x y e h = tt

-- a fact after an Ok, by what it follows from
pub after_ok : {X E : Type 0} (r : Result X E) (P Q : Type 0) → (P → Q) → OnOk r P → OnOk r Q
after_ok (Ok z) P Q f h = f h
after_ok (Err e) P Q f h = tt

-- what a change that may lack memory comes to, where it doesn't
pub after_change : {M X E : Type 0} (r : Result X E) (new made old wanted : M) → new ≡ cond (is_ok r) made old → made ≡ wanted → OnOk r (new ≡ wanted)
after_change (Ok z) new made old wanted e h = e ∙ h
after_change (Err f) new made old wanted e h = tt

-- what follows of a value in any case follows of an Ok
pub each_ok : {X E : Type 0} (r : Result X E) (P Q : X → Type 0) → ((z : X) → P z → Q z) → IfOk r P → IfOk r Q
each_ok (Ok z) P Q f h = f z h
each_ok (Err e) P Q f h = tt
