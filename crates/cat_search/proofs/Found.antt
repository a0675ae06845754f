-- The walk finds exactly the rows of a tree.
use Rattle.std.proofs.Common.{◌≡◌, ℕ, Bool, true, false, ◌&&◌, List, [], ◌∷◌, ◌++◌, length, take, drop, Option, refl, sym, ap, ◌∙◌, arith, append_assoc, true≢false}
use Rattle.std.specs.Prelude.{◌||◌, codes}
use Rattle.std.specs.Char.{to_ascii_lowercase}
use Rattle.std.specs.Fmt.{signed_decimal}
use Rattle.std.proofs.lemmas.List.{append-nil, append_cancel_left, length-append, length-map, map-append, take-map, take-append-drop}
use Rattle.std.proofs.lemmas.List.Folds.{list_any-append}
use Rattle.std.proofs.lemmas.Slice.Eq.{bytes_eq-Decides}
use Rattle.std.proofs.Math.Seq.{take-append_seam}
use Rattle.cat_tree.specs.Ask.{child_of}
use Rattle.cat_tree.specs.Data.{Data, null, flag, whole, words, list, dict, Items, no_items, item, Members, no_members, member}
use Rattle.cat_state_parts.specs.Rows.{folded, same_text, is_empty, step, under, flag_text, tag_rows, rows, item_rows, member_rows, value_fits, fits, has_row, own_part, relation_rows, document_rows}
use Rattle.cat_search.specs.Walk.{begins, is_tag, is_found, is_found_in_items, is_found_in_members}

-- ---- tests

bool_same : (a b : Bool) → (a ≡ true → b ≡ true) → (b ≡ true → a ≡ true) → a ≡ b
bool_same true true f g = refl
bool_same true false f g = sym (f refl)
bool_same false true f g = g refl
bool_same false false f g = refl

pub is_false : (a : Bool) → (a ≡ true → ⊥) → a ≡ false
is_false true h = absurd (h refl)
is_false false h = refl

or_false : (a : Bool) → (a || false) ≡ a
or_false true = refl
or_false false = refl

or_none : (a b : Bool) → a ≡ false → b ≡ false → (a || b) ≡ false
or_none true b h k = h
or_none false b h k = k

pub and_cases : (b x y : Bool) → (b ≡ true → x ≡ y) → (b ≡ false → x ≡ false) → x ≡ (b && y)
and_cases true x y f g = f refl
and_cases false x y f g = g refl

-- ---- texts in lower case

pub folded-append : (s t : List ℕ) → folded (s ++ t) ≡ folded s ++ folded t
folded-append s t = map-append to_ascii_lowercase s t

pub same_to : (s t : List ℕ) → same_text s t ≡ true → folded s ≡ folded t
same_to s t h = (bytes_eq-Decides (folded s) (folded t)).0 h

pub to_same : (s t : List ℕ) → folded s ≡ folded t → same_text s t ≡ true
to_same s t e = (bytes_eq-Decides (folded s) (folded t)).1 e

-- what is left of the key is empty where the path is the key
pub path_is_key : (key path left : List ℕ) → folded key ≡ folded (path ++ left) → same_text key path ≡ is_empty left
path_is_key key path [] e = to_same key path (e ∙ ap folded (append-nil path))
path_is_key key path (b ∷ bs) e =
    is_false (same_text key path) (λ h.
    let long : length (folded path) ≡ length (folded (path ++ b ∷ bs)) = ap length (sym (same_to key path h) ∙ e) in
    let short : length path ≡ length (path ++ b ∷ bs) = sym (length-map path to_ascii_lowercase) ∙ long ∙ length-map (path ++ b ∷ bs) to_ascii_lowercase in
    omega (arith, short, length-append path (b ∷ bs)))

-- the key without the path is compared in place of the key
pub without_path : (key path left t : List ℕ) → folded key ≡ folded (path ++ left) → same_text key (path ++ t) ≡ same_text left t
without_path key path left t e = bool_same _ _
    (λ h. to_same left t (append_cancel_left (folded path) (folded left) (folded t)
    (sym (folded-append path left) ∙ sym e ∙ same_to key (path ++ t) h ∙ folded-append path t)))
    (λ h. to_same key (path ++ t) (e ∙ folded-append path left ∙ ap (λ s. folded path ++ s) (same_to left t h) ∙ sym (folded-append path t)))

-- a text begins with a front just where it goes on after it
begins_from : (front s t : List ℕ) → folded s ≡ folded front ++ t → begins front s ≡ true
begins_from front s t e =
    to_same front (take (length front) s)
    (sym (take-append_seam (folded front) t)
    ∙ ap (take (length (folded front))) (sym e)
    ∙ ap (λ n. take n (folded s)) (length-map front to_ascii_lowercase)
    ∙ take-map to_ascii_lowercase (length front) s)

begins_to : (front s : List ℕ) → begins front s ≡ true → folded s ≡ folded front ++ folded (drop (length front) s)
begins_to front s h =
    ap folded (sym (take-append-drop (length front) s))
    ∙ folded-append (take (length front) s) (drop (length front) s)
    ∙ ap (λ u. u ++ folded (drop (length front) s)) (sym (same_to front (take (length front) s) h))

-- ---- a key that doesn't begin with the path is at no row under it

-- no key in lower case goes on after the path
abbrev pub IsApart : List ℕ → List ℕ → Type 0
IsApart key path = (t : List ℕ) → folded key ≡ folded path ++ t → ⊥

pub not_the_path : (key path s : List ℕ) → IsApart key path → same_text key (path ++ s) ≡ false
not_the_path key path s h = is_false (same_text key (path ++ s)) (λ e. h (folded s) (same_to key (path ++ s) e ∙ folded-append path s))

no_leaf : (key : List ℕ) (value : Option (List ℕ)) (path v : List ℕ) → IsApart key path → has_row key value ((path, v) ∷ []) ≡ false
no_leaf key value path v h =
    ap (λ b. (b && value_fits value v) || false)
    (ap (same_text key) (sym (append-nil path)) ∙ not_the_path key path [] h)

no_tag : (key : List ℕ) (value : Option (List ℕ)) (path : List ℕ) (d : Data) → IsApart key path → has_row key value (tag_rows path d) ≡ false
no_tag key value path null h = refl
no_tag key value path (flag b) h = refl
no_tag key value path (whole z) h = refl
no_tag key value path (words s) h = ap (λ b. (b && value_fits value (codes "true")) || false) (not_the_path key path (46 ∷ s) h)
no_tag key value path (list ds) h = refl
no_tag key value path (dict ms) h = refl

pub apart_under : (key path s : List ℕ) → IsApart key path → IsApart key (path ++ s)
apart_under key path s h = λ t e. h (folded s ++ t) (e ∙ ap (λ u. u ++ t) (folded-append path s) ∙ append_assoc (folded path) (folded s) t)

mutual
  no_rows : (key : List ℕ) (value : Option (List ℕ)) (path : List ℕ) (d : Data) → IsApart key path → has_row key value (rows path d) ≡ false
  no_rows key value path null h = refl
  no_rows key value path (flag b) h = no_leaf key value path (flag_text b) h
  no_rows key value path (whole z) h = no_leaf key value path (signed_decimal z) h
  no_rows key value path (words s) h = no_leaf key value path s h
  no_rows key value path (list ds) h = no_item_rows key value path ds h
  no_rows key value path (dict ms) h = no_member_rows key value path ms h

  no_item_rows : (key : List ℕ) (value : Option (List ℕ)) (path : List ℕ) (ds : Items) → IsApart key path → has_row key value (item_rows path ds) ≡ false
  no_item_rows key value path no_items h = refl
  no_item_rows key value path (item d ds) h =
      list_any-append (fits key value) (rows path d) (tag_rows path d ++ item_rows path ds)
      ∙ or_none _ _ (no_rows key value path d h)
      (list_any-append (fits key value) (tag_rows path d) (item_rows path ds)
      ∙ or_none _ _ (no_tag key value path d h) (no_item_rows key value path ds h))

  no_member_rows : (key : List ℕ) (value : Option (List ℕ)) (path : List ℕ) (ms : Members) → IsApart key path → has_row key value (member_rows path ms) ≡ false
  no_member_rows key value path no_members h = refl
  no_member_rows key value path (member k d ms) h =
      list_any-append (fits key value) (rows (under path k) d) (member_rows path ms)
      ∙ or_none _ _ (no_rows key value (under path k) d (apart_under key path (step (is_empty path) k) h)) (no_member_rows key value path ms h)

-- ---- the walk

found_leaf : (key : List ℕ) (value : Option (List ℕ)) (path left v : List ℕ) → folded key ≡ folded (path ++ left) → has_row key value ((path, v) ∷ []) ≡ (is_empty left && value_fits value v)
found_leaf key value path left v e = or_false _ ∙ ap (λ b. b && value_fits value v) (path_is_key key path left e)

found_tag : (key : List ℕ) (value : Option (List ℕ)) (path left : List ℕ) (d : Data) → folded key ≡ folded (path ++ left) → has_row key value (tag_rows path d) ≡ is_tag left value d
found_tag key value path left null e = refl
found_tag key value path left (flag b) e = refl
found_tag key value path left (whole z) e = refl
found_tag key value path left (words s) e = or_false _ ∙ ap (λ b. b && value_fits value (codes "true")) (without_path key path left (46 ∷ s) e)
found_tag key value path left (list ds) e = refl
found_tag key value path left (dict ms) e = refl

pub empty_under : (path k : List ℕ) → is_empty (under path k) ≡ (is_empty path && is_empty k)
empty_under [] k = refl
empty_under (b ∷ bs) k = refl

pub key_under : (key path left s : List ℕ) → folded key ≡ folded (path ++ left) → begins s left ≡ true → folded key ≡ folded ((path ++ s) ++ drop (length s) left)
key_under key path left s e h =
    e ∙ folded-append path left
    ∙ ap (λ u. folded path ++ u) (begins_to s left h)
    ∙ sym (append_assoc (folded path) (folded s) (folded (drop (length s) left)))
    ∙ ap (λ u. u ++ folded (drop (length s) left)) (sym (folded-append path s))
    ∙ sym (folded-append (path ++ s) (drop (length s) left))

pub apart_from : (key path left s : List ℕ) → folded key ≡ folded (path ++ left) → begins s left ≡ false → IsApart key (path ++ s)
apart_from key path left s e h = λ t k.
    let rest : folded left ≡ folded s ++ t =
    append_cancel_left (folded path) (folded left) (folded s ++ t)
    (sym (folded-append path left) ∙ sym e ∙ k ∙ ap (λ u. u ++ t) (folded-append path s) ∙ append_assoc (folded path) (folded s) t) in
    true≢false (sym (begins_from s left t rest) ∙ h)

mutual
  pub found : (key : List ℕ) (value : Option (List ℕ)) (path left : List ℕ) (d : Data) → folded key ≡ folded (path ++ left) → has_row key value (rows path d) ≡ is_found (is_empty path) left value d
  found key value path left null e = refl
  found key value path left (flag b) e = found_leaf key value path left (flag_text b) e
  found key value path left (whole z) e = found_leaf key value path left (signed_decimal z) e
  found key value path left (words s) e = found_leaf key value path left s e
  found key value path left (list ds) e = found_items key value path left ds e
  found key value path left (dict ms) e = found_members key value path left ms e

  found_items : (key : List ℕ) (value : Option (List ℕ)) (path left : List ℕ) (ds : Items) → folded key ≡ folded (path ++ left) → has_row key value (item_rows path ds) ≡ is_found_in_items (is_empty path) left value ds
  found_items key value path left no_items e = refl
  found_items key value path left (item d ds) e =
      list_any-append (fits key value) (rows path d) (tag_rows path d ++ item_rows path ds)
      ∙ (λ i. found key value path left d e i || list_any-append (fits key value) (tag_rows path d) (item_rows path ds) i)
      ∙ (λ i. is_found (is_empty path) left value d || (found_tag key value path left d e i || found_items key value path left ds e i))

  found_members : (key : List ℕ) (value : Option (List ℕ)) (path left : List ℕ) (ms : Members) → folded key ≡ folded (path ++ left) → has_row key value (member_rows path ms) ≡ is_found_in_members (is_empty path) left value ms
  found_members key value path left no_members e = refl
  found_members key value path left (member k d ms) e =
      let s : List ℕ = step (is_empty path) k in
      list_any-append (fits key value) (rows (under path k) d) (member_rows path ms)
      ∙ (λ i.
      and_cases (begins s left) (has_row key value (rows (under path k) d)) (is_found (is_empty path && is_empty k) (drop (length s) left) value d)
      (λ h. found key value (under path k) (drop (length s) left) d (key_under key path left s e h)
      ∙ ap (λ b. is_found b (drop (length s) left) value d) (empty_under path k))
      (λ h. no_rows key value (under path k) d (apart_from key path left s e h)) i
      || found_members key value path left ms e i)

-- a row of a document is one of the entity or one of its relations
pub document_found : (key : List ℕ) (value : Option (List ℕ)) (d : Data) → has_row key value (document_rows d) ≡ (is_found true key value (own_part d) || has_row key value (relation_rows (child_of (codes "relations") d)))
document_found key value d =
    list_any-append (fits key value) (rows [] (own_part d)) (relation_rows (child_of (codes "relations") d))
    ∙ ap (λ b. b || has_row key value (relation_rows (child_of (codes "relations") d))) (found key value [] key (own_part d) refl)
