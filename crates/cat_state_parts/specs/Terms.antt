-- What documents are listed under, in lower case: the key of a search row, and the key with the value.
use Rattle.std.specs.Prelude.{ℕ, List, [], ◌∷◌, Option, Some, None}
use Rattle.std.specs.List.{flat_map}
use Rattle.cat_tree.specs.Data.{Data}
use Rattle.cat_state_parts.specs.Rows.{Row, folded, document_rows}

-- a key, and what a condition says behind it: nothing, or `=` and a value
abbrev pub Term : Type 0
Term = List ℕ × List ℕ

-- what a condition says behind its key
abbrev pub behind : Option (List ℕ) → List ℕ
behind None = []
behind (Some v) = 61 ∷ folded v

-- the term of a key and a value
abbrev pub term : List ℕ → Option (List ℕ) → Term
term key value = (folded key, behind value)

-- a row has its key, and its key with its value
abbrev pub row_terms : Row → List Term
row_terms row = term row.0 None ∷ term row.0 (Some row.1) ∷ []

-- the terms of rows
abbrev pub terms : List Row → List Term
terms rows = flat_map row_terms rows

-- the terms of a document
abbrev pub document_terms : Data → List Term
document_terms d = terms (document_rows d)
