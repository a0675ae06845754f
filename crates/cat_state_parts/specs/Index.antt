-- The references of documents by term, and the documents that wait to be listed.
use Rattle.std.specs.Prelude.{◌≡◌, ℕ, List, [], Bool, false, Option, Some, None, is_some, option_map, unwrap_or}
use Rattle.std.specs.List.{list_any}
use Rattle.std.specs.Ordering.{eq_by_cmp}
use Rattle.std.specs.declared.cmp.Ordering.{Ordering}
use Rattle.cat_tree.specs.Data.{Data}
use Rattle.cat_collections.specs.Pairs.{pair_cmp}
use Rattle.cat_collections.specs.Rows.{without}
use Rattle.cat_collections.specs.Table.{Map, find, get, put, text_cmp}
use Rattle.cat_state_parts.specs.Terms.{Term, document_terms}

-- references in order, each once
abbrev pub Set : Type 0
Set = Map (Unit {0})

-- the reference is among them
abbrev pub has : Set → List ℕ → Bool
has s r = is_some (get s r)

-- the references under each term
abbrev pub Lists : Type 0
Lists = List (Term × Set)

-- terms are ordered by key, and then by what stands behind it
abbrev pub term_cmp : Term → Term → Ordering
term_cmp = pair_cmp text_cmp text_cmp

-- the references under a term
abbrev pub set_at : Lists → Term → Set
set_at lists t = unwrap_or (find term_cmp t lists) []

-- the terms of a reference's document, if it has one
abbrev pub terms_at : Map Data → List ℕ → List Term
terms_at docs r = unwrap_or (option_map document_terms (get docs r)) []

-- one of the terms is this one
abbrev pub has_term : Term → List Term → Bool
has_term t ts = list_any (eq_by_cmp term_cmp t) ts

-- a reference stands under a term exactly where its document has the term
abbrev pub AreLists : Map Data → Lists → Type 0
AreLists docs lists = (t : Term) (r : List ℕ) → has (set_at lists t) r ≡ has_term t (terms_at docs r)

-- beyond these references, the documents are those that are listed
abbrev pub AgreeBeyond : Set → Map Data → Map Data → Type 0
AgreeBeyond pending docs listed = (r : List ℕ) → has pending r ≡ false → get docs r ≡ get listed r

-- the documents with this one at the reference, or with none there
abbrev pub with_document : List ℕ → Option Data → Map Data → Map Data
with_document r None docs = without text_cmp r docs
with_document r (Some d) docs = put text_cmp r d docs
