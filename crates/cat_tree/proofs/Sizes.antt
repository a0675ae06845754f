-- The length of the text of a list or a map, a member at a time.
use Rattle.std.proofs.Common.{◌≡◌, ℕ, ℤ, pos, negsuc, ◌+◌, ◌<◌, ◌≤◌, ◌^◌, min, List, length, get_or, drop, map, true, Bool, refl, ap, ◌∙◌, arith, ◌∷◌, ◌++◌, false, length-append, sym}
use Rattle.std.proofs.lemmas.List.{drop_more}
use Rattle.std.specs.Fmt.{signed_decimal}
use Rattle.json.specs.Print.{quoted}
use Rattle.serde_json.specs.Written.{comma_if, items_text, members_text}
use Rattle.cat_tree.specs.Data.{whole, list, dict, items_of, members_of}
use Rattle.cat_tree.specs.Text.{json_items, json_members, text_of}
use Rattle.cat_tree.specs.View.{data_of, entry_of}
use Rattle.cat_tree.specs.declared.tree.Tree.{Tree}

pub text_of-whole : (z : ℤ) → text_of (whole z) ≡ signed_decimal z
text_of-whole (pos n) = refl
text_of-whole (negsuc n) = refl

pub whole_size : (z : ℤ) (n : ℕ) → n ≡ length (signed_decimal z) → n ≤ 40 → n ≡ min (length (text_of (whole z))) (2 ^ 62)
whole_size z n e h = let same : length (text_of (whole z)) ≡ length (signed_decimal z) = ap length (text_of-whole z) in omega arith

-- the text of a list from a place on
abbrev pub items_size : Bool → List Tree → ℕ
items_size later ts = length (items_text later (json_items (items_of (map data_of ts))))

-- the text of a map from a place on
abbrev pub members_size : Bool → List (List ℕ × Tree) → ℕ
members_size later ps = length (members_text later (json_members (members_of (map entry_of ps))))

pub item_size : (later : Bool) (ts : List Tree) (i : ℕ) (t : Tree) → i < length ts → t ≡ get_or ts i t
    → items_size later (drop i ts) ≡ length (comma_if later) + (length (text_of (data_of t)) + items_size true (drop (i + 1) ts))
item_size later ts i t h is =
    let rest = items_text true (json_items (items_of (map data_of (drop (i + 1) ts)))) in
    ap (items_size later) (drop_more ts i t h ∙ ap (λ u. u ∷ drop (i + 1) ts) (sym is))
    ∙ (length-append (comma_if later) (text_of (data_of t) ++ rest) ∙ ap (λ n. length (comma_if later) + n) (length-append (text_of (data_of t)) rest))

pub entry_size : (later : Bool) (ps : List (List ℕ × Tree)) (i : ℕ) (p : List ℕ × Tree) → i < length ps → p ≡ get_or ps i p
    → members_size later (drop i ps) ≡ length (comma_if later) + (length (quoted p.0) + (1 + (length (text_of (data_of p.1)) + members_size true (drop (i + 1) ps))))
entry_size later ps i p h is =
    let rest = members_text true (json_members (members_of (map entry_of (drop (i + 1) ps)))) in
    let first = ap (members_size later) (drop_more ps i p h ∙ ap (λ q. q ∷ drop (i + 1) ps) (sym is)) in
    let comma = length-append (comma_if later) (quoted p.0 ++ 58 ∷ (text_of (data_of p.1) ++ rest)) in
    let name = length-append (quoted p.0) (58 ∷ (text_of (data_of p.1) ++ rest)) in
    let value = length-append (text_of (data_of p.1)) rest in
    omega (arith, first, comma, name, value)

pub list_size : (ts : List Tree) → length (text_of (list (items_of (map data_of ts)))) ≡ 1 + items_size false ts
list_size ts = omega arith

pub dict_size : (ps : List (List ℕ × Tree)) → length (text_of (dict (members_of (map entry_of ps)))) ≡ 1 + members_size false ps
dict_size ps = omega arith
