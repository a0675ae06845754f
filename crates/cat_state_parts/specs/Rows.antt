-- What a document says of itself: rows of a path through it and a value.
use Rattle.std.specs.Prelude.{ℕ, List, [], ◌∷◌, ◌++◌, Bool, true, false, ◌||◌, ◌&&◌, Option, Some, None, map, codes, bytes_eq, if◌then◌else◌}
use Rattle.std.specs.Char.{to_ascii_lowercase}
use Rattle.std.specs.Fmt.{signed_decimal}
use Rattle.std.specs.List.{filter, list_any}
use Rattle.cat_tree.specs.Ask.{child_of}
use Rattle.cat_tree.specs.Data.{Data, null, flag, whole, words, list, dict, Items, no_items, item, Members, no_members, member}
use Rattle.cat_types.specs.Reference.{text_at}

-- a key and a value
abbrev pub Row : Type 0
Row = List ℕ × List ℕ

-- the text in lower case, in ASCII alone
abbrev pub folded : List ℕ → List ℕ
folded s = map to_ascii_lowercase s

-- the texts are the same in lower case
abbrev pub same_text : List ℕ → List ℕ → Bool
same_text s t = bytes_eq (folded s) (folded t)

-- the text has no bytes
abbrev pub is_empty : List ℕ → Bool
is_empty [] = true
is_empty (b ∷ bs) = false

-- what a key adds to a path: a point stands before it, but not at the start
abbrev pub step : Bool → List ℕ → List ℕ
step true key = key
step false key = 46 ∷ key

-- the path with a key under it
abbrev pub under : List ℕ → List ℕ → List ℕ
under path key = path ++ step (is_empty path) key

-- a flag as text
abbrev pub flag_text : Bool → List ℕ
flag_text true = codes "true"
flag_text false = codes "false"

-- a text in a list also stands in its path
abbrev pub tag_rows : List ℕ → Data → List Row
tag_rows path null = []
tag_rows path (flag b) = []
tag_rows path (whole z) = []
tag_rows path (words s) = (path ++ 46 ∷ s, codes "true") ∷ []
tag_rows path (list ds) = []
tag_rows path (dict ms) = []

-- the rows of a tree under a path
abbrev mutual
  pub rows : List ℕ → Data → List Row
  rows path null = []
  rows path (flag b) = (path, flag_text b) ∷ []
  rows path (whole z) = (path, signed_decimal z) ∷ []
  rows path (words s) = (path, s) ∷ []
  rows path (list ds) = item_rows path ds
  rows path (dict ms) = member_rows path ms

  pub item_rows : List ℕ → Items → List Row
  item_rows path no_items = []
  item_rows path (item d ds) = rows path d ++ (tag_rows path d ++ item_rows path ds)

  pub member_rows : List ℕ → Members → List Row
  member_rows path no_members = []
  member_rows path (member k d ms) = rows (under path k) d ++ member_rows path ms

-- a key that the catalogue adds to an entity
abbrev pub is_added : List ℕ → Bool
is_added key = bytes_eq key (codes "relations") || bytes_eq key (codes "status")

-- the members of the entity alone
abbrev pub own_members : Members → Members
own_members no_members = no_members
own_members (member k d ms) = if is_added k then own_members ms else member k d (own_members ms)

-- the entity of a document
abbrev pub own_part : Data → Data
own_part null = null
own_part (flag b) = flag b
own_part (whole z) = whole z
own_part (words s) = words s
own_part (list ds) = list ds
own_part (dict ms) = dict (own_members ms)

-- a relation of a type to a target
abbrev pub named_row : Option (List ℕ) → Option (List ℕ) → List Row
named_row None t = []
named_row (Some y) None = []
named_row (Some y) (Some t) = (codes "relations." ++ y, t) ∷ []

-- the row of a relation of a document
abbrev pub relation_row : Data → List Row
relation_row d = named_row (text_at (child_of (codes "type") d)) (text_at (child_of (codes "targetRef") d))

-- the rows of the relations in order
abbrev pub relation_items : Items → List Row
relation_items no_items = []
relation_items (item d ds) = relation_row d ++ relation_items ds

-- the rows of what stands under `relations`
abbrev pub relation_rows : Option Data → List Row
relation_rows None = []
relation_rows (Some null) = []
relation_rows (Some (flag b)) = []
relation_rows (Some (whole z)) = []
relation_rows (Some (words s)) = []
relation_rows (Some (list ds)) = relation_items ds
relation_rows (Some (dict ms)) = []

-- the search rows of a document
abbrev pub document_rows : Data → List Row
document_rows d = rows [] (own_part d) ++ relation_rows (child_of (codes "relations") d)

-- the value is the wanted one, where one is wanted
abbrev pub value_fits : Option (List ℕ) → List ℕ → Bool
value_fits None v = true
value_fits (Some w) v = same_text w v

-- the row has the key, and the value where one is wanted
abbrev pub fits : List ℕ → Option (List ℕ) → Row → Bool
fits key value row = same_text key row.0 && value_fits value row.1

-- one of the rows does
abbrev pub has_row : List ℕ → Option (List ℕ) → List Row → Bool
has_row key value rs = list_any (fits key value) rs

-- the values of the rows with the key, as they are spelled
abbrev pub values_at : List ℕ → List Row → List (List ℕ)
values_at key rs = map (λ row. row.1) (filter (λ row. same_text key row.0) rs)
