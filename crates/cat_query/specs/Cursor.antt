-- Cursors as texts.
use Rattle.std.specs.Prelude.{◌≡◌, ℕ, List, [], ◌∷◌, Option, Some, None, Ok, IsOk, codes, ⊤}
use Rattle.cat_query.specs.Query.{Parameter, asked_of, values_named}
use Rattle.cat_query.specs.declared.fault.QueryFault.{QueryFault}
use Rattle.cat_query.specs.declared.fault.QueryFault.TheVariants.{BadCursor}
use Rattle.base64.specs.Engines.{url_safe_no_pad}
use Rattle.base64.specs.GeneralPurpose.{encode_of, decode_of}
use Rattle.cat_tree.specs.Data.{Data, null, words, list, no_items, item}
use Rattle.cat_tree.specs.Read.{ReadsAs}
use Rattle.cat_tree.specs.Text.{text_of}
use Rattle.cat_types.specs.Reference.{parsed}
use Rattle.cat_pages.specs.declared.query.Cursor.{Cursor}

-- the value, or null where there is none
abbrev pub value_data : Option (List ℕ) → Data
value_data None = null
value_data (Some v) = words v

-- the list of a value and a reference
abbrev pub place_data : Option (List ℕ) → List ℕ → Data
place_data value reference = list (item (value_data value) (item (words reference) no_items))

-- the list of a cursor's value and reference
abbrev pub cursor_data : Cursor → Data
cursor_data c = place_data c.value c.reference

-- the base64url text without padding of the compact text of that list
abbrev pub cursor_text : Cursor → List ℕ
cursor_text c = encode_of url_safe_no_pad (text_of (cursor_data c))

-- the cursor's reference is one
abbrev pub IsNamed : Cursor → Type 0
IsNamed c = parsed c.reference None (codes "default") ≡ Ok c.reference

-- the text is the one spelling of the cursor: it decodes to JSON text of the list, whose reference is one, and is what is
-- written for it
pub record IsCursor (text : List ℕ) (c : Cursor) : Type 0 where
  pub bytes : List ℕ
  pub decodes : decode_of url_safe_no_pad text ≡ Ok bytes
  pub reads : ReadsAs bytes (cursor_data c)
  pub names : IsNamed c
  pub spelled : text ≡ cursor_text c

-- the cursor of the values of a parameter that may stand once
abbrev pub CursorIs : List (List ℕ) → Option Cursor → Type 0
CursorIs [] None = ⊤
CursorIs [] (Some c) = ⊥
CursorIs (v ∷ []) None = ⊥
CursorIs (v ∷ []) (Some c) = IsCursor v c
CursorIs (v ∷ w ∷ vs) o = ⊥

-- the values are no cursor
abbrev pub HasNoCursor : List (List ℕ) → Type 0
HasNoCursor [] = ⊥
HasNoCursor (v ∷ []) = (c : Cursor) → ¬ IsCursor v c
HasNoCursor (v ∷ w ∷ vs) = ⊤

-- the rest of the query reads, and its cursor doesn't
abbrev pub IsBadCursor : List Parameter → QueryFault → Type 0
IsBadCursor ps e = (e ≡ BadCursor) × IsOk (asked_of ps) × HasNoCursor (values_named (codes "cursor") ps)
