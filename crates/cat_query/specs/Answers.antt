-- The answers that show documents, as JSON.
use Rattle.std.specs.Prelude.{◌≡◌, ℕ, pos, List, [], ◌∷◌, length, take, map, codes, Option, Some, None}
use Rattle.cat_tree.specs.Data.{Data, null, whole, words, list, dict, no_members, member, items_of}
use Rattle.cat_collections.specs.Table.{get}
use Rattle.cat_pages.specs.Page.{Pair, Ranked, matching, following, page_items, next_after, total_of}
use Rattle.cat_query.specs.Project.{Path, projected}
use Rattle.cat_query.specs.Cursor.{cursor_text}
use Rattle.cat_query.specs.Facets.{facets_data}
use Rattle.cat_pages.specs.declared.query.Cursor.{Cursor}
use Rattle.cat_pages.specs.declared.query.Query.{Query}

-- ---- lists

-- the documents as the fields keep them
abbrev pub shown : List Path → List Pair → List Data
shown fields ps = map (λ p. projected fields p.1) ps

-- the documents that match, as the fields keep them, in order of reference
abbrev pub listed : Query → List Pair → List Data
listed q ps = shown q.fields (matching q.filters ps)

-- the list of them
abbrev pub list_data : Query → List Pair → Data
list_data q ps = list (items_of (listed q ps))

-- ---- pages

-- the documents that a query asks for, from its cursor's place on, in its order
abbrev pub asked_for : Query → List Pair → List Ranked
asked_for q ps = following q.filters q.order q.cursor ps

-- the text of the next cursor, where more documents follow
abbrev pub page_info : Option Cursor → Data
page_info None = dict no_members
page_info (Some c) = dict (member (codes "nextCursor") (words (cursor_text c)) no_members)

-- a page: its items as the fields keep them, what it says of the next one, and a number of documents
abbrev pub page_shown : List Path → List Pair → Option Cursor → ℕ → Data
page_shown fields items next total =
    dict (member (codes "items") (list (items_of (shown fields items)))
    (member (codes "pageInfo") (page_info next)
    (member (codes "totalItems") (whole (pos total)) no_members)))

-- the page that a query asks for, with the number of all documents that match
abbrev pub page_data : Query → List Pair → Data
page_data q ps = page_shown q.fields (page_items q.limit (asked_for q ps)) (next_after q.limit (asked_for q ps)) (total_of q.filters ps)

-- ---- facets

-- facets as an answer
abbrev pub facets_in : Data → Data
facets_in d = dict (member (codes "facets") d no_members)

-- the facets of the documents that match
abbrev pub facets_shown : Query → List Pair → Data
facets_shown q ps = facets_in (facets_data q.filters q.facets ps)

-- the answer, where there are keys
abbrev pub answer_for : List (List ℕ) → Data → Option Data
answer_for [] d = None
answer_for (k ∷ ks) d = Some d

-- a query that names no facet has no answer
abbrev pub facets_answer : Query → List Pair → Option Data
facets_answer q ps = answer_for q.facets (facets_shown q ps)

-- ---- documents by reference

-- the document as the fields keep it, or null where there is none
abbrev pub shown_or_null : List Path → Option Data → Data
shown_or_null fields None = null
shown_or_null fields (Some d) = projected fields d

-- what there is under these references, one by one
abbrev pub looked_up : List Path → List Pair → List (List ℕ) → List Data
looked_up fields ps rs = map (λ r. shown_or_null fields (get ps r)) rs

-- the list of it
abbrev pub many_data : List (List ℕ) → List Path → List Pair → Data
many_data rs fields ps = dict (member (codes "items") (list (items_of (looked_up fields ps rs))) no_members)

-- ---- appending

-- what stood at the front still does
abbrev pub IsKept : List ℕ → List ℕ → Type 0
IsKept old new = take (length old) new ≡ old
