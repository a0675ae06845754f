-- Texts of lists that are appended item by item.
use Rattle.std.proofs.Common.{◌≡◌, ℕ, Bool, false, List, [], ◌∷◌, ◌++◌, length, take, Option, refl, ap, ◌∙◌, append_assoc}
use Rattle.std.specs.Prelude.{codes, decimal, Result, Ok, Err, OnOk}
use Rattle.json.specs.Print.{escape_byte}
use Rattle.serde_json.specs.Written.{items_text}
use Rattle.cat_tree.specs.Data.{Data, dict, items_of, list, member, no_members}
use Rattle.cat_tree.specs.Text.{json_items, text_of}
use Rattle.cat_query.specs.Answers.{IsKept, facets_in, page_info, page_shown, shown}
use Rattle.cat_pages.specs.Page.{Pair}
use Rattle.cat_query.specs.Project.{Path}
use Rattle.cat_pages.specs.declared.query.Cursor.{Cursor}

-- what is kept of what is kept is kept
pub kept_on : (a b c : List ℕ) → IsKept a b → IsKept b c → IsKept a c
kept_on [] b c h k = refl
kept_on (x ∷ a) [] c h k = absurd (cc)
kept_on (x ∷ a) (y ∷ b) [] h k = absurd (cc)
kept_on (x ∷ a) (y ∷ b) (z ∷ c) h k =
    let first : z ≡ x = cc in
    let left : take (length a) b ≡ a = cc in
    let right : take (length b) c ≡ b = cc in
    (λ i. first i ∷ kept_on a b c left right i)

pub kept_before : (a b : List ℕ) → IsKept a (a ++ b)
kept_before [] b = refl
kept_before (x ∷ a) b = ap (λ l. x ∷ l) (kept_before a b)

pub kept_itself : (a : List ℕ) → IsKept a a
kept_itself [] = refl
kept_itself (x ∷ a) = ap (λ l. x ∷ l) (kept_itself a)

pub kept_more : (a b w : List ℕ) → b ≡ a ++ w → IsKept a b
kept_more a b w e = ap (take (length a)) e ∙ kept_before a w

pub ruleset kept = (kept_on, kept_before, kept_itself)

-- the text of items behind others, with the closing bracket
abbrev pub rest_text : Bool → List Data → List ℕ
rest_text later ds = items_text later (json_items (items_of ds))

-- ---- whole texts

-- a fact after an Ok, by what it follows from
pub after_ok : {X E : Type 0} (r : Result X E) (P Q : Type 0) → (P → Q) → OnOk r P → OnOk r Q
after_ok (Ok x) P Q f p = f p
after_ok (Err e) P Q f p = tt

-- three texts, one after the other
pub three_texts : (old one two three a b c : List ℕ) → one ≡ old ++ a → two ≡ one ++ b → three ≡ two ++ c → three ≡ old ++ (a ++ (b ++ c))
three_texts old one two three a b c e f g =
    g ∙ ap (λ l. l ++ c) (f ∙ ap (λ l. l ++ b) e) ∙ append_assoc (old ++ a) b c ∙ append_assoc old a (b ++ c)

pub facets_text : (d : Data) → codes "{\"facets\":" ++ (text_of d ++ 125 ∷ []) ≡ text_of (facets_in d)
unfolding escape_byte
facets_text d = refl

pub many_text : (ds : List Data) → codes "{\"items\":[" ++ (rest_text false ds ++ 125 ∷ []) ≡ text_of (dict (member (codes "items") (list (items_of ds)) no_members))
unfolding escape_byte
many_text ds = refl

pub page_text : (fields : List Path) (items : List Pair) (next : Option Cursor) (total : ℕ)
    → codes "{\"items\":[" ++ (rest_text false (shown fields items) ++ (codes ",\"pageInfo\":" ++ (text_of (page_info next) ++ (codes ",\"totalItems\":" ++ (decimal total ++ 125 ∷ [])))))
    ≡ text_of (page_shown fields items next total)
unfolding escape_byte
page_text fields items next total = refl
