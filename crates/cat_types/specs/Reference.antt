-- The reference that a text or a descriptor names.
use Rattle.std.specs.Prelude.{◌≡◌, ℕ, List, [], ◌∷◌, ◌++◌, Bool, true, false, Option, Some, None, Result, Ok, Err, map, if◌then◌else◌, IsTrue, unwrap_or, codes}
use Rattle.std.specs.Char.{to_ascii_lowercase}
use Rattle.std.specs.Option.{option_or}
use Rattle.cat_tree.specs.Ask.{child_of}
use Rattle.cat_tree.specs.Data.{Data, null, flag, whole, words, list, dict}
use Rattle.cat_types.specs.Names.{is_kind, is_namespace, is_name}
use Rattle.cat_types.specs.Reading.{Pieces, reading}
use Rattle.cat_types.specs.declared.fault.RefFault.{RefFault}
use Rattle.cat_types.specs.declared.fault.RefFault.TheVariants.{Shape, NoKind, BadKind, BadNamespace, BadName}

-- `kind:namespace/name`, folded to lower case
abbrev pub full_text : List ℕ → List ℕ → List ℕ → List ℕ
full_text kind namespace name = map to_ascii_lowercase (kind ++ 58 ∷ (namespace ++ 47 ∷ name))

-- a reference is the full text of a kind, a namespace and a name
pub record IsReference (text : List ℕ) : Type 0 where
  pub kind : List ℕ
  pub namespace : List ℕ
  pub name : List ℕ
  pub is_kind : IsTrue (is_kind kind)
  pub is_namespace : IsTrue (is_namespace namespace)
  pub is_name : IsTrue (is_name name)
  pub text_is : text ≡ full_text kind namespace name

-- the reference of three parts, or the first part that breaks its rule
unfoldable pub named : List ℕ → List ℕ → List ℕ → Result (List ℕ) RefFault
named kind namespace name =
    if is_kind kind then
    (if is_namespace namespace then
    (if is_name name then Ok (full_text kind namespace name) else Err BadName)
    else Err BadNamespace)
    else Err BadKind

-- the reference of three parts, where there may be no kind
abbrev pub named_by : Option (List ℕ) → List ℕ → List ℕ → Result (List ℕ) RefFault
named_by None namespace name = Err NoKind
named_by (Some kind) namespace name = named kind namespace name

-- the reference of pieces, with the defaults in place of what is left out
abbrev pub filled_in : Option Pieces → Option (List ℕ) → List ℕ → Result (List ℕ) RefFault
filled_in None kind namespace = Err Shape
filled_in (Some p) kind namespace = named_by (option_or p.kind kind) (unwrap_or p.namespace namespace) p.name

-- the reference that a text names, with a default kind, if there is one, and a default namespace
abbrev pub parsed : List ℕ → Option (List ℕ) → List ℕ → Result (List ℕ) RefFault
parsed text kind namespace = filled_in (reading text) kind namespace

-- ---- of a descriptor

-- a map
abbrev pub is_map : Data → Bool
is_map null = false
is_map (flag b) = false
is_map (whole z) = false
is_map (words s) = false
is_map (list ds) = false
is_map (dict ms) = true

-- the text, if it is one
abbrev pub text_in : Data → Option (List ℕ)
text_in null = None
text_in (flag b) = None
text_in (whole z) = None
text_in (words s) = Some s
text_in (list ds) = None
text_in (dict ms) = None

-- the text at a field, if it is there and one
abbrev pub text_at : Option Data → Option (List ℕ)
text_at None = None
text_at (Some d) = text_in d

-- a part that is there and no text counts as the empty text, which breaks its rule
abbrev pub part_or : List ℕ → Option Data → List ℕ
part_or missing None = missing
part_or missing (Some d) = unwrap_or (text_in d) []

-- the reference by the fields of a descriptor and its metadata
abbrev pub named_in : Data → Option Data → Result (List ℕ) RefFault
named_in d None = Err Shape
named_in d (Some metadata) =
    if is_map metadata then
    named_by (text_at (child_of (codes "kind") d)) (part_or (codes "default") (child_of (codes "namespace") metadata)) (part_or [] (child_of (codes "name") metadata))
    else Err Shape

-- the reference that a descriptor names
abbrev pub described : Data → Result (List ℕ) RefFault
described d = named_in d (child_of (codes "metadata") d)
