-- The body of a mutation: its fields, each of its form, before any reference is read.
use Rattle.std.specs.Prelude.{ℕ, suc, ◌^◌, pos, negsuc, Bool, List, [], ◌∷◌, ◌++◌, Option, None, Some, Result, Ok, Err, ◌&&◌, nat_lt, nat_le, length, if◌then◌else◌, codes}
use Rattle.std.specs.Option.{ok_or}
use Rattle.cat_tree.specs.Ask.{child_of}
use Rattle.cat_tree.specs.Data.{Data, null, flag, whole, words, list, dict, Items, no_items, item}
use Rattle.cat_types.specs.Reference.{text_in}
use Rattle.cat_inputs.specs.declared.fault.InputFault.{InputFault}
use Rattle.cat_inputs.specs.declared.fault.InputFault.TheVariants.{Shape}
use Rattle.cat_inputs.specs.declared.fault.Place.{Place}
use Rattle.cat_inputs.specs.declared.fault.Place.TheVariants.{Serial, Entities, Added, Removed}
use Rattle.cat_inputs.specs.declared.form.Form.{Form}
use Rattle.cat_inputs.specs.declared.form.Form.TheVariants.{Full, Delta}
use Rattle.cat_inputs.specs.Faults.{place_text}

-- an item as the body gives it: its descriptor, and its location key, if it has one
pub record Entry : Type 0 where
  pub entity : Data
  pub key : Option (List ℕ)

-- the fields of a body, where `removed` is empty for a full mutation
pub record Body : Type 0 where
  pub serial : ℕ
  pub entries : List Entry
  pub removed : List (List ℕ)

-- ---- steps that may refuse

-- the next step on what the first one gives
abbrev pub and_then : {A B E : Type 0} → Result A E → (A → Result B E) → Result B E
and_then (Ok x) next = next x
and_then (Err e) next = Err e

-- these, and then those
abbrev pub with_front : {A E : Type 0} → List A → Result (List A) E → Result (List A) E
with_front xs (Ok ys) = Ok (xs ++ ys)
with_front xs (Err e) = Err e

-- this one, and then those
abbrev pub onto : {A E : Type 0} → Result A E → Result (List A) E → Result (List A) E
onto (Ok x) more = with_front (x ∷ []) more
onto (Err e) more = Err e

-- f of each element and its place, counted from i on, up to the first that it refuses
abbrev pub each_from : {A B E : Type 0} → (ℕ → A → Result B E) → ℕ → List A → Result (List B) E
each_from f i [] = Ok []
each_from f i (x ∷ xs) = onto (f i x) (each_from f (suc i) xs)

-- ---- the fields

-- a serial number is from 1 to 2^53 - 1
abbrev pub is_serial : ℕ → Bool
is_serial n = nat_lt 0 n && nat_lt n (2 ^ 53)

-- the serial number that a field holds, if it holds one
abbrev pub serial_in : Option Data → Option ℕ
serial_in None = None
serial_in (Some null) = None
serial_in (Some (flag b)) = None
serial_in (Some (whole (pos n))) = if is_serial n then Some n else None
serial_in (Some (whole (negsuc n))) = None
serial_in (Some (words s)) = None
serial_in (Some (list ds)) = None
serial_in (Some (dict ms)) = None

-- a location key has from 1 to 2,048 bytes
abbrev pub is_key : List ℕ → Bool
is_key k = nat_lt 0 (length k) && nat_le (length k) 2048

-- the location key, which may be absent, unless it is ill-formed
abbrev pub key_in : Option (List ℕ) → Option (Option (List ℕ))
key_in None = None
key_in (Some k) = if is_key k then Some (Some k) else None

-- the location key that a field holds, where it is absent or well-formed
abbrev pub key_at : Option Data → Option (Option (List ℕ))
key_at None = Some None
key_at (Some d) = key_in (text_in d)

-- an item of an entity and a well-formed key
abbrev pub entry_with : Option Data → Option (Option (List ℕ)) → Option Entry
entry_with None key = None
entry_with (Some d) None = None
entry_with (Some d) (Some k) = Some (record { entity = d; key = k })

-- the item that a member of a list is: an object with `entity` and, if it likes, `locationKey`
abbrev pub entry_in : Data → Option Entry
entry_in d = entry_with (child_of (codes "entity") d) (key_at (child_of (codes "locationKey") d))

-- the items of a list, each of its form
abbrev pub entries_from : Place → Items → Result (List Entry) InputFault
entries_from place no_items = Ok []
entries_from place (item d ds) = onto (ok_or (entry_in d) (Shape place)) (entries_from place ds)

-- the items of a field that is a list of items
abbrev pub entries_in : Place → Option Data → Result (List Entry) InputFault
entries_in place None = Err (Shape place)
entries_in place (Some null) = Err (Shape place)
entries_in place (Some (flag b)) = Err (Shape place)
entries_in place (Some (whole z)) = Err (Shape place)
entries_in place (Some (words s)) = Err (Shape place)
entries_in place (Some (list ds)) = entries_from place ds
entries_in place (Some (dict ms)) = Err (Shape place)

-- the texts of a list of texts
abbrev pub texts_from : Place → Items → Result (List (List ℕ)) InputFault
texts_from place no_items = Ok []
texts_from place (item d ds) = onto (ok_or (text_in d) (Shape place)) (texts_from place ds)

-- the texts of a field that is a list of texts
abbrev pub texts_in : Place → Option Data → Result (List (List ℕ)) InputFault
texts_in place None = Err (Shape place)
texts_in place (Some null) = Err (Shape place)
texts_in place (Some (flag b)) = Err (Shape place)
texts_in place (Some (whole z)) = Err (Shape place)
texts_in place (Some (words s)) = Err (Shape place)
texts_in place (Some (list ds)) = texts_from place ds
texts_in place (Some (dict ms)) = Err (Shape place)

-- the field with the name of this place
abbrev pub field : Place → Data → Option Data
field place d = child_of (place_text place) d

-- the serial number of a body
abbrev pub serial_of : Data → Result ℕ InputFault
serial_of d = ok_or (serial_in (field Serial d)) (Shape Serial)

-- the items under a field of a body
abbrev pub entries_of : Place → Data → Result (List Entry) InputFault
entries_of place d = entries_in place (field place d)

-- the texts under a field of a body
abbrev pub texts_of : Place → Data → Result (List (List ℕ)) InputFault
texts_of place d = texts_in place (field place d)

-- a body of these parts
abbrev pub body_with : ℕ → List Entry → List (List ℕ) → Body
body_with serial entries removed = record { serial = serial; entries = entries; removed = removed }

-- the body of a mutation of this form, or the first of its own fields that is missing or of another form
abbrev pub body_in : Form → Data → Result Body InputFault
body_in Full d =
    and_then (serial_of d) (λ n. and_then (entries_of Entities d) (λ es. Ok (body_with n es [])))
body_in Delta d =
    and_then (serial_of d) (λ n. and_then (entries_of Added d) (λ es. and_then (texts_of Removed d) (λ ts. Ok (body_with n es ts))))
