-- A page: the first documents of an order after a place.
use Rattle.std.specs.Prelude.{ℕ, ◌-◌, nat_lt, List, [], ◌∷◌, length, take, map, Bool, true, false, not, Option, Some, None, slice_get, if◌then◌else◌}
use Rattle.std.specs.List.{filter_map}
use Rattle.std.specs.Ordering.{is_lt}
use Rattle.std.specs.FinMap.Entries.{by_order}
use Rattle.std.specs.Borrow.{Bor}
use Rattle.cat_tree.specs.Data.{Data}
use Rattle.cat_tree.specs.View.{data_of}
use Rattle.cat_tree.specs.declared.tree.Tree.{Tree}
use Rattle.cat_collections.specs.Table.{text_cmp}
use Rattle.cat_state_parts.specs.Rows.{folded, document_rows, values_at}
pub use Rattle.cat_search.specs.Filter.{is_accepted, matching}
use Rattle.cat_search.specs.declared.condition.Condition.{Condition}
use Rattle.cat_pages.specs.declared.query.OrderBy.{OrderBy}
use Rattle.cat_pages.specs.declared.query.Cursor.{Cursor}

-- a reference with its document
abbrev pub Pair : Type 0
Pair = List ℕ × Data

-- what a lent reference with its document is
abbrev pub pair_seen : Bor (List ℕ) × Bor Tree → Pair
pair_seen p = (p.0.now, data_of p.1.now)

-- ---- the place of a document in an order

-- the lesser of a text and another, if there is one
abbrev pub lesser : List ℕ → Option (List ℕ) → List ℕ
lesser v None = v
lesser v (Some w) = by_order (text_cmp v w) v w w

-- the least of the texts in lower case
abbrev pub least : List (List ℕ) → Option (List ℕ)
least [] = None
least (v ∷ vs) = Some (lesser (folded v) (least vs))

-- the value that the order looks at; without an order there is none
abbrev pub value_of : Option OrderBy → Data → Option (List ℕ)
value_of None d = None
value_of (Some o) d = least (values_at o.key (document_rows d))

-- greater values come first
abbrev pub is_falling : Option OrderBy → Bool
is_falling None = false
is_falling (Some o) = o.falling

-- a value and a reference
abbrev pub Place : Type 0
Place = Option (List ℕ) × List ℕ

-- places with a value come first, by value, and then by reference
abbrev pub comes_before : Bool → Place → Place → Bool
comes_before falls (Some v, r) (Some w, s) = by_order (text_cmp v w) (not falls) (is_lt (text_cmp r s)) falls
comes_before falls (Some v, r) (None, s) = true
comes_before falls (None, r) (Some w, s) = false
comes_before falls (None, r) (None, s) = is_lt (text_cmp r s)

-- the place is after the cursor's, if there is a cursor
abbrev pub is_after : Bool → Option Cursor → Place → Bool
is_after falls None p = true
is_after falls (Some c) p = comes_before falls (c.value, c.reference) p

-- ---- the documents in the order

-- a document with its value
abbrev pub Ranked : Type 0
Ranked = Option (List ℕ) × Pair

-- its place
abbrev pub place_of : Ranked → Place
place_of r = (r.0, r.1.0)

-- the document with its value, where it is after the cursor
abbrev pub candidate : Option OrderBy → Option Cursor → Pair → Option Ranked
candidate order cursor p = if is_after (is_falling order) cursor (value_of order p.1, p.0) then Some (value_of order p.1, p) else None

-- the document stands before the first one that it comes before
abbrev pub inserted : Bool → Ranked → List Ranked → List Ranked
inserted falls r [] = r ∷ []
inserted falls r (s ∷ rs) = if comes_before falls (place_of r) (place_of s) then r ∷ s ∷ rs else s ∷ inserted falls r rs

-- the documents in the order of their places
abbrev pub in_page_order : Bool → List Ranked → List Ranked
in_page_order falls [] = []
in_page_order falls (r ∷ rs) = inserted falls r (in_page_order falls rs)

-- the first documents of these and another, if there is one
abbrev pub kept_with : Bool → ℕ → Option Ranked → List Ranked → List Ranked
kept_with falls most None rs = rs
kept_with falls most (Some r) rs = take most (inserted falls r rs)

-- those that follow the cursor, in order
abbrev pub ranked : Option OrderBy → Option Cursor → List Pair → List Ranked
ranked order cursor ps = in_page_order (is_falling order) (filter_map (candidate order cursor) ps)

-- all that match and follow the cursor, in order
abbrev pub following : List (List Condition) → Option OrderBy → Option Cursor → List Pair → List Ranked
following filters order cursor ps = ranked order cursor (matching filters ps)

-- ---- the page

-- the first documents
abbrev pub page_items : ℕ → List Ranked → List Pair
page_items limit rs = map (λ r. r.1) (take limit rs)

-- the cursor of a document
abbrev pub cursor_of : Option Ranked → Option Cursor
cursor_of None = None
cursor_of (Some r) = Some (record { value = r.0; reference = r.1.0 })

-- the cursor of the last of the first documents, where more follow
abbrev pub next_after : ℕ → List Ranked → Option Cursor
next_after limit rs = if nat_lt limit (length rs) then cursor_of (slice_get rs (limit - 1)) else None

-- how many documents match, wherever the page begins
abbrev pub total_of : List (List Condition) → List Pair → ℕ
total_of filters ps = length (matching filters ps)
