-- A text that is no cursor, by where its reading ends.
use Rattle.std.proofs.Common.{◌≡◌, ℕ, List, [], ◌∷◌, length, get_or, map, arith, None, Some, Ok, Option, Result, true, codes, refl, sym, ap, subst, ◌∙◌, true≢false, ◌⊎◌, inl, inr}
use Rattle.cat_query.specs.declared.fault.QueryFault.{QueryFault}
use Rattle.cat_query.specs.declared.fault.QueryFault.TheVariants.{BadCursor, NoMemory}
use Rattle.base64.specs.Engines.{url_safe_no_pad}
use Rattle.base64.specs.GeneralPurpose.{decode_of, encode_of}
use Rattle.serde_json.specs.Data as json
use Rattle.serde_json.specs.Read.{read}
use Rattle.serde_json.specs.Written.{has_float}
use Rattle.cat_tree.specs.Data.{Data, item, items_of, list, no_items, null, words}
use Rattle.cat_tree.specs.Read.{ReadsAs, IsReading, tree_of}
use Rattle.cat_tree.specs.Text.{text_of}
use Rattle.cat_types.specs.Reference.{parsed}
use Rattle.cat_tree.specs.View.{data_of}
use Rattle.cat_tree.specs.declared.tree.Tree.{Tree}
use Rattle.cat_query.specs.Cursor.{IsCursor, IsNamed, cursor_data, cursor_text, value_data}
use Rattle.cat_pages.specs.declared.query.Cursor.{Cursor}

pub not_decoded : (text : List ℕ) → ((b : List ℕ) → decode_of url_safe_no_pad text ≡ Ok b → ⊥) → (c : Cursor) → IsCursor text c → ⊥
not_decoded text h c k = h k.bytes k.decodes

same_bytes : {E : Type 0} (r : Result (List ℕ) E) (a b : List ℕ) → r ≡ Ok a → r ≡ Ok b → a ≡ b
same_bytes r a b e k = cc

pub not_read : (text b : List ℕ) → decode_of url_safe_no_pad text ≡ Ok b → ((d : Data) → ReadsAs b d → ⊥) → (c : Cursor) → IsCursor text c → ⊥
not_read text b e h c k = h (cursor_data c) (subst (λ s. ReadsAs s (cursor_data c)) (same_bytes (decode_of url_safe_no_pad text) k.bytes b k.decodes e) k.reads)

same_json : (o : Option json.Data) (a b : json.Data) → o ≡ Some a → o ≡ Some b → a ≡ b
same_json o a b e k = cc

-- a text reads as one tree
pub one_tree : (b : List ℕ) (t u : Data) → ReadsAs b t → ReadsAs b u → t ≡ u
one_tree b t u h k = sym h.3 ∙ ap tree_of (same_json (read b) h.0 k.0 h.1.1 k.1.1) ∙ k.3

first_of_two : (a b c d : Data) → list (item a (item b no_items)) ≡ list (item c (item d no_items)) → a ≡ c
first_of_two a b c d e = cc

second_of_two : (a b c d : Data) → list (item a (item b no_items)) ≡ list (item c (item d no_items)) → b ≡ d
second_of_two a b c d e = cc

-- cursors with one list are one
same_cursor : (c d : Cursor) → cursor_data c ≡ cursor_data d → cursor_text c ≡ cursor_text d
same_cursor c d e = ap (λ t. encode_of url_safe_no_pad (text_of t)) e

pub other_text : (t : Data) (d : Cursor) (text written : List ℕ) → t ≡ cursor_data d → written ≡ cursor_text d → (written ≡ text → ⊥) → (c : Cursor) → IsNamed c → t ≡ cursor_data c → cursor_text c ≡ text → ⊥
other_text t d text written is w h c n e k = h (w ∙ same_cursor d c (sym is ∙ e) ∙ k)

-- a fault in reading the text that was decoded is one of the cursor's
pub fault_read : (text b s : List ℕ) (f : QueryFault) → decode_of url_safe_no_pad text ≡ Ok b → s ≡ b → (f ≡ NoMemory) ⊎ ((f ≡ BadCursor) × ((d : Data) → ReadsAs s d → ⊥)) → (f ≡ NoMemory) ⊎ ((f ≡ BadCursor) × ((c : Cursor) → IsCursor text c → ⊥))
fault_read text b s f e same (inl h) = inl h
fault_read text b s f e same (inr p) = inr (p.0, not_read text b e (λ d r. p.1 d (subst (λ l. ReadsAs l d) (sym same) r)))

pub fault_spelled : (text b s : List ℕ) (t : Data) (f : QueryFault) → decode_of url_safe_no_pad text ≡ Ok b → s ≡ b → ReadsAs s t → (f ≡ NoMemory) ⊎ ((f ≡ BadCursor) × ((c : Cursor) → IsNamed c → t ≡ cursor_data c → cursor_text c ≡ text → ⊥)) → (f ≡ NoMemory) ⊎ ((f ≡ BadCursor) × ((c : Cursor) → IsCursor text c → ⊥))
fault_spelled text b s t f e same r (inl h) = inl h
fault_spelled text b s t f e same r (inr p) =
    inr (
      p.0,
      λ c k.
          p.1 c k.names
          (one_tree s t (cursor_data c) r (subst (λ l. ReadsAs l (cursor_data c)) (same_bytes (decode_of url_safe_no_pad text) k.bytes b k.decodes e ∙ sym same) k.reads))
          (sym k.spelled),
    )

pub is_cursor : (text b s : List ℕ) (t : Data) (d : Cursor) → decode_of url_safe_no_pad text ≡ Ok b → s ≡ b → ReadsAs s t → t ≡ cursor_data d → IsNamed d → cursor_text d ≡ text → IsCursor text d
is_cursor text b s t d e same r is names h = record {
  bytes = b;
  decodes = e;
  reads = subst (ReadsAs b) is (subst (λ l. ReadsAs l t) same r);
  names = names;
  spelled = sym h;
}

-- what isn't the list of two is the list of no cursor
pub no_pair : (t : Data) → ((a b : Data) → t ≡ list (item a (item b no_items)) → ⊥) → (c : Cursor) → IsNamed c → t ≡ cursor_data c → ⊥
no_pair t h c n e = h (value_data c.value) (words c.reference) e

pub no_value : (t a b : Data) → t ≡ list (item a (item b no_items)) → ((v : Option (List ℕ)) → a ≡ value_data v → ⊥) → (c : Cursor) → IsNamed c → t ≡ cursor_data c → ⊥
no_value t a b is h c n e = h c.value (first_of_two a b (value_data c.value) (words c.reference) (sym is ∙ e))

pub no_reference : (t a b : Data) → t ≡ list (item a (item b no_items)) → ((r : List ℕ) → parsed r None (codes "default") ≡ Ok r → b ≡ words r → ⊥) → (c : Cursor) → IsNamed c → t ≡ cursor_data c → ⊥
no_reference t a b is h c n e = h c.reference n (second_of_two a b (value_data c.value) (words c.reference) (sym is ∙ e))

-- a text with a float reads as no tree
pub no_tree : (b : List ℕ) (d : json.Data) → IsReading b d → has_float d ≡ true → (t : Data) → ReadsAs b t → ⊥
no_tree b d r f t k = true≢false (sym f ∙ ap has_float (same_json (read b) d k.0 r.1 k.1.1) ∙ k.2)

pub two_items : (ts : List Tree) (x y : Tree) → length ts ≡ 2 → x ≡ get_or ts 0 x → y ≡ get_or ts 1 y → items_of (map data_of ts) ≡ item (data_of x) (item (data_of y) no_items)
two_items [] x y h e k = absurd (omega arith)
two_items (t ∷ []) x y h e k = absurd (omega arith)
two_items (t ∷ u ∷ []) x y h e k = (λ i. item (data_of (sym e i)) (item (data_of (sym k i)) no_items))
two_items (t ∷ u ∷ v ∷ ws) x y h e k = absurd (omega arith)

pub not_two : (ts : List Tree) → (length ts ≡ 2 → ⊥) → (a b : Data) → items_of (map data_of ts) ≡ item a (item b no_items) → ⊥
not_two [] h a b e = cc
not_two (t ∷ []) h a b e = cc
not_two (t ∷ u ∷ []) h a b e = h refl
not_two (t ∷ u ∷ v ∷ ws) h a b e = cc

pub ruleset twos = (two_items, not_two)

-- ---- a text is one cursor at most

null≢words : (s : List ℕ) → null ≡ words s → ⊥
null≢words s e = cc

same_value : (v w : Option (List ℕ)) → value_data v ≡ value_data w → v ≡ w
same_value None None e = refl
same_value None (Some w) e = absurd (null≢words w e)
same_value (Some v) None e = absurd (null≢words v (sym e))
same_value (Some v) (Some w) e = cc

same_words : (r s : List ℕ) → words r ≡ words s → r ≡ s
same_words r s e = cc

same_places : (c d : Cursor) → cursor_data c ≡ cursor_data d → c ≡ d
same_places c d e =
    let values : c.value ≡ d.value = same_value c.value d.value (first_of_two (value_data c.value) (words c.reference) (value_data d.value) (words d.reference) e) in
    let references : c.reference ≡ d.reference = same_words c.reference d.reference (second_of_two (value_data c.value) (words c.reference) (value_data d.value) (words d.reference) e) in
    (λ i. record { value = values i; reference = references i })

pub one_cursor : (text : List ℕ) (c d : Cursor) → IsCursor text c → IsCursor text d → c ≡ d
one_cursor text c d h k =
    same_places c d
    (one_tree k.bytes (cursor_data c) (cursor_data d)
    (subst (λ s. ReadsAs s (cursor_data c)) (same_bytes (decode_of url_safe_no_pad text) h.bytes k.bytes h.decodes k.decodes) h.reads) k.reads)
