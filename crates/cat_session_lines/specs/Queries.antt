-- The query that a text is, or why it is none.
use Rattle.std.specs.Prelude.{◌≡◌, ℕ, Bool, true, false, List, [], ◌∷◌, Option, None, Some, Result, Ok, Err, nat_le, bytes_eq, if◌then◌else◌, codes}
use Rattle.std.proofs.Common.{refl}
use Rattle.std.proofs.lemmas.Bool.{leb-true}
use Rattle.base64.specs.Engines.{url_safe_no_pad}
use Rattle.base64.specs.GeneralPurpose.{decode_of}
use Rattle.base64.specs.declared.decode.DecodeError.{DecodeError}
use Rattle.cat_tree.specs.Data.{Data, null, flag, whole, words, list, dict, Items, no_items, item}
use Rattle.cat_tree.specs.declared.read.TreeFault.{TreeFault}
use Rattle.cat_types.specs.Reference.{parsed}
use Rattle.cat_types.specs.declared.fault.RefFault.{RefFault}
use Rattle.cat_collections.specs.Table.{Text}
use Rattle.cat_inputs.specs.Reading.{tree_reading}
use Rattle.cat_query.specs.Cursor.{cursor_text}
use Rattle.cat_query.specs.Query.{Asked, Parameter, asked_of, parameters_of, values_named}
use Rattle.cat_query.specs.declared.fault.QueryFault.{QueryFault}
use Rattle.cat_query.specs.declared.fault.QueryFault.TheVariants.{BadCursor, BadLimit}
use Rattle.cat_pages.specs.declared.query.Cursor.{Cursor}
use Rattle.cat_pages.specs.declared.query.Query.{Query}

-- ---- cursors

-- the value of a cursor is a text or null
abbrev pub value_in : Data → Option (Option Text)
value_in null = Some None
value_in (flag b) = None
value_in (whole z) = None
value_in (words s) = Some (Some s)
value_in (list ds) = None
value_in (dict ms) = None

-- The text, where the reference that was read from it is that same text.
abbrev pub itself : Text → Result Text RefFault → Option Text
itself text (Ok r) = if bytes_eq r text then Some text else None
itself text (Err fault) = None

-- the reference of a cursor is written in full
abbrev pub reference_in : Data → Option Text
reference_in null = None
reference_in (flag b) = None
reference_in (whole z) = None
reference_in (words s) = itself s (parsed s None (codes "default"))
reference_in (list ds) = None
reference_in (dict ms) = None

-- The cursor of a value, which may be null, and a reference, where both were read.
abbrev pub cursor_with : Option (Option Text) → Option Text → Option Cursor
cursor_with None reference = None
cursor_with (Some value) None = None
cursor_with (Some value) (Some reference) = Some (record { value = value; reference = reference })

-- the cursor of two members
abbrev pub cursor_of_two : Items → Option Cursor
cursor_of_two no_items = None
cursor_of_two (item a no_items) = None
cursor_of_two (item a (item b no_items)) = cursor_with (value_in a) (reference_in b)
cursor_of_two (item a (item b (item c ds))) = None

-- the cursor that a list of a value and a reference is
abbrev pub cursor_in : Data → Option Cursor
cursor_in null = None
cursor_in (flag b) = None
cursor_in (whole z) = None
cursor_in (words s) = None
cursor_in (list ds) = cursor_of_two ds
cursor_in (dict ms) = None

-- the cursor, where the text is what is written for it
abbrev pub spelled : Text → Option Cursor → Option Cursor
spelled text None = None
spelled text (Some c) = if bytes_eq (cursor_text c) text then Some c else None

-- The cursor that the tree read is, where the text is what is written for it; none without a tree.
abbrev pub cursor_of_tree : Text → Result Data TreeFault → Option Cursor
cursor_of_tree text (Ok d) = spelled text (cursor_in d)
cursor_of_tree text (Err fault) = None

-- The cursor of a text, by the bytes that it was decoded to; none where it has none.
abbrev pub cursor_of_bytes : Text → Result (List ℕ) DecodeError → Option Cursor
cursor_of_bytes text (Ok bytes) = cursor_of_tree text (tree_reading bytes)
cursor_of_bytes text (Err fault) = None

-- the cursor that a text is, if it is one
unfoldable pub cursor_of : Text → Option Cursor
cursor_of text = cursor_of_bytes text (decode_of url_safe_no_pad text)

-- A cursor that was read, or the fault of a text that is none.
abbrev pub one_cursor : Option Cursor → Result (Option Cursor) QueryFault
one_cursor None = Err BadCursor
one_cursor (Some c) = Ok (Some c)

-- at most one cursor
abbrev pub cursor_among : List Text → Result (Option Cursor) QueryFault
cursor_among [] = Ok None
cursor_among (v ∷ []) = one_cursor (cursor_of v)
cursor_among (v ∷ w ∷ vs) = Err BadCursor

-- ---- queries

-- the query whose limit is from 1 to 1,000
abbrev pub limited : (a : Asked) → Option Cursor → (least most : Bool) → nat_le 1 a.limit ≡ least → nat_le a.limit 1000 ≡ most → Result Query QueryFault
limited a c true true l m = Ok (record {
  filters = a.filters;
  fields = a.fields;
  facets = a.facets;
  order = a.order;
  limit = a.limit;
  cursor = c;
  least = leb-true 1 a.limit l;
  most = leb-true a.limit 1000 m;
})
limited a c true false l m = Err BadLimit
limited a c false most l m = Err BadLimit

-- The query of what is asked and of a cursor, if there is one, or the first fault of the cursor and the limit.
abbrev pub with_cursor : Asked → Result (Option Cursor) QueryFault → Result Query QueryFault
with_cursor a (Ok c) = limited a c (nat_le 1 a.limit) (nat_le a.limit 1000) refl refl
with_cursor a (Err fault) = Err fault

-- The query of what the parameters ask and of their `cursor`, or the first fault; that of what is asked comes first.
abbrev pub query_with : List Parameter → Result Asked QueryFault → Result Query QueryFault
query_with ps (Ok a) = with_cursor a (cursor_among (values_named (codes "cursor") ps))
query_with ps (Err fault) = Err fault

-- the query that a text is, or the first fault among filters, order, limit and cursor
unfoldable pub query_of : Text → Result Query QueryFault
query_of text = query_with (parameters_of text) (asked_of (parameters_of text))
