-- What is counted at a text is how many lists have it.
use Rattle.std.proofs.Common.{add-zero, ◌≡◌, ℕ, suc, ◌+◌, Bool, true, false, cond, ◌&&◌, List, [], ◌∷◌, map, Option, Some, None, Ordering, Less, Equal, Greater, refl, sym, ap, ◌∙◌, true≢false, arith}
use Rattle.std.specs.Prelude.{is_some, bytes_eq}
use Rattle.std.specs.Option.{unwrap_or}
use Rattle.std.specs.List.{list_any, AllByRecursion}
use Rattle.std.specs.List.Sorted.{IsStrictlySortedBy}
use Rattle.std.specs.Ordering.{eq_by_cmp, is_eq, is_lt}
use Rattle.std.specs.FinMap.Entries.{find-put, is_sorted, below_all}
use Rattle.std.proofs.lemmas.List.Sums.{sum_by-cons}
use Rattle.std.proofs.lemmas.Map.Text.{is_eq-slice_cmp}
use Rattle.cat_collections.specs.Table.{Map, get, keys, tabulate, text_cmp, text_total, text_antisymmetric}
use Rattle.cat_collections.specs.Order.{in_order}
use Rattle.cat_collections.proofs.Tables.{find-tabulate, is_sorted-tabulate, same_is}
use Rattle.cat_collections.proofs.Rising.{from_T}
use Rattle.cat_query.specs.Facets.{all_more, counted, counts, how_many, one_more}

-- the number at a text
abbrev number : Map ℕ → List ℕ → ℕ
number m v = unwrap_or (get m v) 0

first_true : (a b : Bool) → (a && b) ≡ true → a ≡ true
first_true true b e = refl
first_true false b e = e

second_true : (a b : Bool) → (a && b) ≡ true → b ≡ true
second_true true b e = e
second_true false b e = absurd (true≢false (sym e))

is_less : (o : Ordering) → is_lt o ≡ true → o ≡ Less
is_less Less e = refl
is_less Equal e = absurd (true≢false (sym e))
is_less Greater e = absurd (true≢false (sym e))

-- a text below all others isn't among them
below_none : (x : List ℕ) (es : Map (Unit {0})) → below_all text_cmp x es ≡ true → is_some (get es x) ≡ false
below_none x [] h = refl
below_none x (e ∷ es) h = go (text_cmp x e.0) h (λ i. below_none x es i)
  where
    go : (o : Ordering) → (is_lt o && below_all text_cmp x es) ≡ true → (below_all text_cmp x es ≡ true → is_some (get es x) ≡ false) → is_some (cond (is_eq o) (Some e.1) (get es x)) ≡ false
    go Less i later = later i
    go Equal i later = absurd (true≢false (sym i))
    go Greater i later = absurd (true≢false (sym i))

one_or_other : (b : Bool) (n : ℕ) (x : Option ℕ) → unwrap_or (cond b (Some n) x) 0 ≡ cond b n (unwrap_or x 0)
one_or_other true n x = refl
one_or_other false n x = refl

number-one_more : (w : List ℕ) (m : Map ℕ) (v : List ℕ) → number (one_more w m) v ≡ cond (eq_by_cmp text_cmp v w) 1 0 + number m v
number-one_more w m v =
    ap (λ o. unwrap_or o 0) (find-put text_cmp text_total v w (suc (number m w)) m)
    ∙ one_or_other (eq_by_cmp text_cmp v w) (suc (number m w)) (get m v)
    ∙ go (eq_by_cmp text_cmp v w) refl
  where
    go : (b : Bool) → eq_by_cmp text_cmp v w ≡ b → cond b (suc (number m w)) (number m v) ≡ cond b 1 0 + number m v
    go true e = let here : number m w ≡ number m v = ap (number m) (sym (same_is text_total text_antisymmetric v w e)) in omega (arith, here)
    go false e = omega arith

number-all_more : (es : Map (Unit {0})) (m : Map ℕ) (v : List ℕ) → is_sorted text_cmp es ≡ true → number (all_more (keys es) m) v ≡ cond (is_some (get es v)) 1 0 + number m v
number-all_more [] m v h = omega arith
number-all_more (e ∷ es) m v h =
    number-all_more es (one_more e.0 m) v (second_true (below_all text_cmp e.0 es) (is_sorted text_cmp es) h)
    ∙ ap (λ n. cond (is_some (get es v)) 1 0 + n) (number-one_more e.0 m v)
    ∙ go (eq_by_cmp text_cmp v e.0) refl
  where
    go : (b : Bool) → eq_by_cmp text_cmp v e.0 ≡ b → cond (is_some (get es v)) 1 0 + (cond b 1 0 + number m v) ≡ cond (is_some (cond b (Some e.1) (get es v))) 1 0 + number m v
    go true i =
        let gone : is_some (get es v) ≡ false =
        ap (λ x. is_some (get es x)) (same_is text_total text_antisymmetric v e.0 i) ∙ below_none e.0 es (first_true (below_all text_cmp e.0 es) (is_sorted text_cmp es) h) in
        ap (λ b. cond b 1 0 + (1 + number m v)) gone ∙ omega arith
    go false i = omega arith

some_where : (b : Bool) → is_some (cond b (Some (tt {0})) None) ≡ b
some_where true = refl
some_where false = refl

has-in_order : (vs : List (List ℕ)) (v : List ℕ) → is_some (get (tabulate text_cmp vs (λ x. Some (tt {0}))) v) ≡ list_any (λ w. bytes_eq v w) vs
has-in_order vs v =
    ap is_some (find-tabulate text_total text_antisymmetric v vs (λ x. Some (tt {0})))
    ∙ some_where (list_any (eq_by_cmp text_cmp v) vs)
    ∙ (λ i. list_any (λ w. is_eq-slice_cmp v w i) vs)

other_order : (a b c : ℕ) → a + (b + c) ≡ (b + a) + c
other_order a b c = omega arith

number-counted : (vss : List (List (List ℕ))) (m : Map ℕ) (v : List ℕ) → number (counted vss m) v ≡ how_many v vss + number m v
number-counted [] m v = omega arith
number-counted (vs ∷ vss) m v =
    number-counted vss (all_more (in_order text_cmp vs) m) v
    ∙ ap (λ n. how_many v vss + n)
    (number-all_more (tabulate text_cmp vs (λ x. Some (tt {0}))) m v (from_T _ (is_sorted-tabulate text_total text_antisymmetric vs (λ x. Some (tt {0}))))
    ∙ ap (λ b. cond b 1 0 + number m v) (has-in_order vs v))
    ∙ other_order (how_many v vss) (cond (list_any (λ w. bytes_eq v w) vs) 1 0) (number m v)
    ∙ ap (λ n. n + number m v) (sym (sum_by-cons (λ ws. cond (list_any (λ w. bytes_eq v w) ws) 1 0) vs vss))

-- the number at a text is that of the lists that have it
pub number_at : (vss : List (List (List ℕ))) (v : List ℕ) → unwrap_or (get (counts vss) v) 0 ≡ how_many v vss
number_at vss v = number-counted vss [] v ∙ add-zero (how_many v vss)

-- ---- keys in order

all_above : (x : List ℕ) (es : Map (Unit {0})) → below_all text_cmp x es ≡ true → AllByRecursion (λ k. text_cmp x k ≡ Less) (keys es)
all_above x [] h = tt
all_above x (e ∷ es) h =
    (is_less (text_cmp x e.0) (first_true (is_lt (text_cmp x e.0)) (below_all text_cmp x es) h), all_above x es (second_true (is_lt (text_cmp x e.0)) (below_all text_cmp x es) h))

pub keys_rise : (es : Map (Unit {0})) → is_sorted text_cmp es ≡ true → IsStrictlySortedBy text_cmp (keys es)
unfolding IsStrictlySortedBy
keys_rise [] h = tt
keys_rise (e ∷ es) h =
    (all_above e.0 es (first_true (below_all text_cmp e.0 es) (is_sorted text_cmp es) h), keys_rise es (second_true (below_all text_cmp e.0 es) (is_sorted text_cmp es) h))

pub keys_of_made : {X : Type 0} (f : List ℕ → X) (es : Map (Unit {0})) → map (λ (m : List ℕ × X). m.0) (map {B = List ℕ × X} (λ e. (e.0, f e.0)) es) ≡ keys es
keys_of_made f [] = refl
keys_of_made f (e ∷ es) = ap (λ l. e.0 ∷ l) (keys_of_made f es)

pub made_of_keys : {X : Type 0} (f : List ℕ → X) (es : Map (Unit {0})) → map {B = List ℕ × X} (λ e. (e.0, f e.0)) es ≡ map {B = List ℕ × X} (λ k. (k, f k)) (keys es)
made_of_keys f [] = refl
made_of_keys f (e ∷ es) = ap (λ l. (e.0, f e.0) ∷ l) (made_of_keys f es)
