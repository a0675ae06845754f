-- The walk that collects values collects those of exactly the rows with the key.
use Rattle.std.proofs.Common.{◌≡◌, ℕ, Bool, true, false, ◌&&◌, cond, List, [], ◌∷◌, ◌++◌, length, drop, map, refl, sym, ap, ◌∙◌}
use Rattle.std.specs.Prelude.{codes}
use Rattle.std.specs.Fmt.{signed_decimal}
use Rattle.std.specs.List.{filter}
use Rattle.std.proofs.lemmas.List.{append-nil, map-append}
use Rattle.cat_tree.specs.Ask.{child_of}
use Rattle.cat_tree.specs.Data.{Data, null, flag, whole, words, list, dict, Items, no_items, item, Members, no_members, member}
use Rattle.cat_state_parts.specs.Rows.{Row, folded, same_text, is_empty, step, under, flag_text, tag_rows, rows, item_rows, member_rows, own_part, relation_rows, document_rows, values_at}
use Rattle.cat_search.specs.Walk.{begins, kept, tag_values, values_found, values_in_items, values_in_members}
use Rattle.cat_search.proofs.Found.{IsApart, path_is_key, without_path, not_the_path, apart_under, empty_under, key_under, apart_from}

keep_step : (t : Bool) (x : Row) (xs ys : List Row) → cond t (x ∷ (xs ++ ys)) (xs ++ ys) ≡ cond t (x ∷ xs) xs ++ ys
keep_step true x xs ys = refl
keep_step false x xs ys = refl

filter-append : (p : Row → Bool) (xs ys : List Row) → filter p (xs ++ ys) ≡ filter p xs ++ filter p ys
filter-append p [] ys = refl
filter-append p (x ∷ xs) ys = ap (λ zs. cond (p x) (x ∷ zs) zs) (filter-append p xs ys) ∙ keep_step (p x) x (filter p xs) (filter p ys)

pub values-append : (key : List ℕ) (xs ys : List Row) → values_at key (xs ++ ys) ≡ values_at key xs ++ values_at key ys
values-append key xs ys =
    ap (map (λ row. row.1)) (filter-append (λ row. same_text key row.0) xs ys)
    ∙ map-append (λ row. row.1) (filter (λ row. same_text key row.0) xs) (filter (λ row. same_text key row.0) ys)

value_by : (path v : List ℕ) (t : Bool) → map {A = Row} (λ row. row.1) (cond t ((path, v) ∷ []) []) ≡ cond t (v ∷ []) []
value_by path v true = refl
value_by path v false = refl

-- the value of one row, by whether it has the key
one_value : (key path v : List ℕ) → values_at key ((path, v) ∷ []) ≡ cond (same_text key path) (v ∷ []) []
one_value key path v = value_by path v (same_text key path)

both_empty : (xs ys : List (List ℕ)) → xs ≡ [] → ys ≡ [] → xs ++ ys ≡ []
both_empty xs ys e k = (λ i. e i ++ k i)

no_leaf : (key path v : List ℕ) → IsApart key path → values_at key ((path, v) ∷ []) ≡ []
no_leaf key path v h = one_value key path v ∙ ap (λ b. cond b (v ∷ []) []) (ap (same_text key) (sym (append-nil path)) ∙ not_the_path key path [] h)

no_tag : (key path : List ℕ) (d : Data) → IsApart key path → values_at key (tag_rows path d) ≡ []
no_tag key path null h = refl
no_tag key path (flag b) h = refl
no_tag key path (whole z) h = refl
no_tag key path (words s) h = one_value key (path ++ 46 ∷ s) (codes "true") ∙ ap (λ b. cond b (codes "true" ∷ []) []) (not_the_path key path (46 ∷ s) h)
no_tag key path (list ds) h = refl
no_tag key path (dict ms) h = refl

mutual
  no_values : (key path : List ℕ) (d : Data) → IsApart key path → values_at key (rows path d) ≡ []
  no_values key path null h = refl
  no_values key path (flag b) h = no_leaf key path (flag_text b) h
  no_values key path (whole z) h = no_leaf key path (signed_decimal z) h
  no_values key path (words s) h = no_leaf key path s h
  no_values key path (list ds) h = no_item_values key path ds h
  no_values key path (dict ms) h = no_member_values key path ms h

  no_item_values : (key path : List ℕ) (ds : Items) → IsApart key path → values_at key (item_rows path ds) ≡ []
  no_item_values key path no_items h = refl
  no_item_values key path (item d ds) h =
      values-append key (rows path d) (tag_rows path d ++ item_rows path ds)
      ∙ both_empty _ _ (no_values key path d h)
      (values-append key (tag_rows path d) (item_rows path ds)
      ∙ both_empty _ _ (no_tag key path d h) (no_item_values key path ds h))

  no_member_values : (key path : List ℕ) (ms : Members) → IsApart key path → values_at key (member_rows path ms) ≡ []
  no_member_values key path no_members h = refl
  no_member_values key path (member k d ms) h =
      values-append key (rows (under path k) d) (member_rows path ms)
      ∙ both_empty _ _ (no_values key (under path k) d (apart_under key path (step (is_empty path) k) h)) (no_member_values key path ms h)

kept_by : (left v : List ℕ) → cond (is_empty left) (v ∷ []) [] ≡ kept left v
kept_by [] v = refl
kept_by (b ∷ bs) v = refl

leaf : (key path left v : List ℕ) → folded key ≡ folded (path ++ left) → values_at key ((path, v) ∷ []) ≡ kept left v
leaf key path left v e = one_value key path v ∙ ap (λ b. cond b (v ∷ []) []) (path_is_key key path left e) ∙ kept_by left v

tag : (key path left : List ℕ) (d : Data) → folded key ≡ folded (path ++ left) → values_at key (tag_rows path d) ≡ tag_values left d
tag key path left null e = refl
tag key path left (flag b) e = refl
tag key path left (whole z) e = refl
tag key path left (words s) e = one_value key (path ++ 46 ∷ s) (codes "true") ∙ ap (λ b. cond b (codes "true" ∷ []) []) (without_path key path left (46 ∷ s) e)
tag key path left (list ds) e = refl
tag key path left (dict ms) e = refl

if_cases : (b : Bool) (x y : List (List ℕ)) → (b ≡ true → x ≡ y) → (b ≡ false → x ≡ []) → x ≡ cond b y []
if_cases true x y f g = f refl
if_cases false x y f g = g refl

mutual
  pub valued : (key path left : List ℕ) (d : Data) → folded key ≡ folded (path ++ left) → values_at key (rows path d) ≡ values_found (is_empty path) left d
  valued key path left null e = refl
  valued key path left (flag b) e = leaf key path left (flag_text b) e
  valued key path left (whole z) e = leaf key path left (signed_decimal z) e
  valued key path left (words s) e = leaf key path left s e
  valued key path left (list ds) e = valued_items key path left ds e
  valued key path left (dict ms) e = valued_members key path left ms e

  valued_items : (key path left : List ℕ) (ds : Items) → folded key ≡ folded (path ++ left) → values_at key (item_rows path ds) ≡ values_in_items (is_empty path) left ds
  valued_items key path left no_items e = refl
  valued_items key path left (item d ds) e =
      values-append key (rows path d) (tag_rows path d ++ item_rows path ds)
      ∙ (λ i. valued key path left d e i ++ values-append key (tag_rows path d) (item_rows path ds) i)
      ∙ (λ i. values_found (is_empty path) left d ++ (tag key path left d e i ++ valued_items key path left ds e i))

  valued_members : (key path left : List ℕ) (ms : Members) → folded key ≡ folded (path ++ left) → values_at key (member_rows path ms) ≡ values_in_members (is_empty path) left ms
  valued_members key path left no_members e = refl
  valued_members key path left (member k d ms) e =
      let s : List ℕ = step (is_empty path) k in
      values-append key (rows (under path k) d) (member_rows path ms)
      ∙ (λ i.
      if_cases (begins s left) (values_at key (rows (under path k) d)) (values_found (is_empty path && is_empty k) (drop (length s) left) d)
      (λ h. valued key (under path k) (drop (length s) left) d (key_under key path left s e h)
      ∙ ap (λ b. values_found b (drop (length s) left) d) (empty_under path k))
      (λ h. no_values key (under path k) d (apart_from key path left s e h)) i
      ++ valued_members key path left ms e i)

-- the values of a document are those of the entity and those of its relations
pub document_values : (key : List ℕ) (d : Data) → values_at key (document_rows d) ≡ values_found true key (own_part d) ++ values_at key (relation_rows (child_of (codes "relations") d))
document_values key d =
    values-append key (rows [] (own_part d)) (relation_rows (child_of (codes "relations") d))
    ∙ ap (λ vs. vs ++ values_at key (relation_rows (child_of (codes "relations") d))) (valued key [] key (own_part d) refl)
