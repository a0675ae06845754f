-- How many documents have each value of a key.
use Rattle.std.specs.Prelude.{ℕ, suc, pos, List, [], ◌∷◌, map, codes, bytes_eq}
use Rattle.std.specs.List.{list_any, count_by}
use Rattle.std.specs.Option.{unwrap_or}
use Rattle.cat_tree.specs.Data.{Data, whole, words, list, dict, no_members, member, items_of, members_of}
use Rattle.cat_collections.specs.Table.{Map, get, put, text_cmp}
use Rattle.cat_collections.specs.Order.{in_order}
use Rattle.cat_state_parts.specs.Rows.{document_rows, values_at}
use Rattle.cat_search.specs.declared.condition.Condition.{Condition}
use Rattle.cat_pages.specs.Page.{Pair, matching}

-- one more at the text
abbrev pub one_more : List ℕ → Map ℕ → Map ℕ
one_more v m = put text_cmp v (suc (unwrap_or (get m v) 0)) m

-- one more at each of the texts
abbrev pub all_more : List (List ℕ) → Map ℕ → Map ℕ
all_more [] m = m
all_more (v ∷ vs) m = all_more vs (one_more v m)

-- the lists counted too: each counts once at each text that it has
abbrev pub counted : List (List (List ℕ)) → Map ℕ → Map ℕ
counted [] m = m
counted (vs ∷ ws) m = counted ws (all_more (in_order text_cmp vs) m)

-- the counts of documents by their values
abbrev pub counts : List (List (List ℕ)) → Map ℕ
counts vss = counted vss []

-- how many of the lists have the text
abbrev pub how_many : List ℕ → List (List (List ℕ)) → ℕ
how_many v vss = count_by (λ vs. list_any (λ w. bytes_eq v w) vs) vss

-- the values at the key of each document
abbrev pub values_among : List ℕ → List Pair → List (List (List ℕ))
values_among key ps = map (λ p. values_at key (document_rows p.1)) ps

-- a value with its count
abbrev pub count_data : List ℕ × ℕ → Data
count_data e = dict (member (codes "count") (whole (pos e.1)) (member (codes "value") (words e.0) no_members))

-- the values of a key with their counts, by value
abbrev pub facet_data : List Pair → List ℕ → Data
facet_data ps key = list (items_of (map count_data (counts (values_among key ps))))

-- each of the keys, once and in order, with its values
abbrev pub facet_map : List Pair → List (List ℕ) → Map Data
facet_map ps ks = map (λ k. (k, facet_data ps k)) (in_order text_cmp ks)

-- the facets of the documents that match
abbrev pub facets_data : List (List Condition) → List (List ℕ) → List Pair → Data
facets_data filters keys ps = dict (members_of (facet_map (matching filters ps) keys))
