-- The documents of an order by value: those at one value after the other, and then those without a value.
use Rattle.std.specs.Prelude.{◌≡◌, ℕ, ◌-◌, List, [], ◌∷◌, ◌++◌, Bool, true, false, not, drop, is_some, map, take, Option, Some, None, if◌then◌else◌}
use Rattle.std.specs.Option.{option_and_then}
use Rattle.std.specs.List.{filter, filter_map, flat_map, AllByRecursion}
use Rattle.cat_collections.specs.Table.{Map, get, same_text, text_cmp}
use Rattle.cat_collections.specs.Places.{before}
use Rattle.cat_tree.specs.Data.{Data}
use Rattle.cat_state_parts.specs.Rows.{folded}
use Rattle.cat_search.specs.Index.{Set, Lists, has, has_term, term_cmp, terms_at}
use Rattle.cat_search.specs.Terms.{Term}
use Rattle.cat_pages.specs.Page.{Pair, Ranked, candidate, is_accepted, is_falling, matching}
use Rattle.cat_pages.specs.declared.query.Query.{Query}
use Rattle.cat_pages.specs.declared.query.OrderBy.{OrderBy}
use Rattle.cat_pages.specs.declared.query.Cursor.{Cursor}

-- ---- documents by value

-- those that match and follow the cursor, in order of reference
abbrev pub candidates : Query → Map Data → List Ranked
candidates q docs = filter_map (candidate q.order q.cursor) (matching q.filters docs)

-- the value is the one that stands behind a key and `=`
abbrev pub is_behind : List ℕ → Option (List ℕ) → Bool
is_behind behind None = false
is_behind behind (Some v) = same_text behind (61 ∷ v)

-- those with the value that stands behind a key
abbrev pub with_value : List ℕ → List Ranked → List Ranked
with_value behind rs = filter (λ r. is_behind behind r.0) rs

-- those without a value
abbrev pub without_value : List Ranked → List Ranked
without_value rs = filter (λ r. not (is_some r.0)) rs

-- those with one of the values, in the order of the values
abbrev pub rising : List (List ℕ) → List Ranked → List Ranked
rising bs rs = flat_map (λ b. with_value b rs) bs

-- those with one of the values, from the last value on
abbrev pub falling : List (List ℕ) → List Ranked → List Ranked
falling [] rs = []
falling (b ∷ bs) rs = falling bs rs ++ with_value b rs

-- those with one of the values, in a direction
abbrev pub by_value : Bool → List (List ℕ) → List Ranked → List Ranked
by_value true bs rs = falling bs rs
by_value false bs rs = rising bs rs

-- ---- one document after the other

-- the candidate, where it passes
abbrev pub passed : (Ranked → Bool) → Option Ranked → Option Ranked
passed test None = None
passed test (Some r) = if test r then Some r else None

-- the document as a candidate, where it matches
abbrev pub matched : Query → Pair → Option Ranked
matched q p = if is_accepted q.filters p.1 then candidate q.order q.cursor p else None

-- where its value stands behind the key
abbrev pub chosen : Query → List ℕ → Pair → Option Ranked
chosen q behind p = passed (λ r. is_behind behind r.0) (matched q p)

-- where it has no value
abbrev pub unvalued : Query → Pair → Option Ranked
unvalued q p = passed (λ r. not (is_some r.0)) (matched q p)

-- what is made of the document of a reference
abbrev pub at_reference : Map Data → (Pair → Option Ranked) → List ℕ → Option Ranked
at_reference docs f r = option_and_then (λ d. f (r, d)) (get docs r)

-- the documents of the references whose values stand behind the key
abbrev pub looked : Query → Map Data → List ℕ → Set → List Ranked
looked q docs behind s = filter_map (λ e. at_reference docs (chosen q behind) e.0) s

-- those with the value of an entry, if there is one
abbrev pub at_entry : Option (Term × Set) → List Ranked → List Ranked
at_entry None rs = []
at_entry (Some e) rs = with_value e.0.1 rs

-- ---- the terms that the values stand in

-- the key of an order in lower case
abbrev pub key_of : Option OrderBy → List ℕ
key_of None = []
key_of (Some o) = folded o.key

-- where the values begin, with what stands before them
abbrev pub begin_at : Bool → Option (List ℕ) → List ℕ
begin_at falls None = 62 ∷ []
begin_at true (Some v) = 61 ∷ []
begin_at false (Some v) = 61 ∷ v

-- before which they end
abbrev pub end_at : Bool → Option (List ℕ) → List ℕ
end_at falls None = 62 ∷ []
end_at true (Some v) = 61 ∷ v ++ 0 ∷ []
end_at false (Some v) = 62 ∷ []

-- where those begin that may follow the cursor
abbrev pub begins : Bool → Option Cursor → List ℕ
begins falls None = 61 ∷ []
begins falls (Some c) = begin_at falls c.value

-- before which they end
abbrev pub ends : Bool → Option Cursor → List ℕ
ends falls None = 62 ∷ []
ends falls (Some c) = end_at falls c.value

-- the place of the first term whose documents may follow the cursor
abbrev pub start_of : Query → Lists → ℕ
start_of q lists = before term_cmp (key_of q.order, begins (is_falling q.order) q.cursor) lists

-- the place behind the last one
abbrev pub end_of : Query → Lists → ℕ
end_of q lists = before term_cmp (key_of q.order, ends (is_falling q.order) q.cursor) lists

-- the entries from one place up to another
abbrev pub span : ℕ → ℕ → Lists → Lists
span start end lists = take (end - start) (drop start lists)

-- what stands behind the keys of entries
abbrev pub behinds : Lists → List (List ℕ)
behinds lists = map (λ e. e.0.1) lists

-- the entries stand at a key
abbrev pub AreAtKey : List ℕ → Lists → Type 0
AreAtKey key lists = AllByRecursion (λ e. e.0.0 ≡ key) lists

-- a reference stands in the entry exactly where its document has the term
abbrev pub IsListed : Map Data → Term × Set → Type 0
IsListed docs e = (r : List ℕ) → has e.1 r ≡ has_term e.0 (terms_at docs r)

-- ---- documents without a value

-- the place from which on they may follow a cursor with this value and reference
abbrev pub rest_at : Option (List ℕ) → List ℕ → Map Data → ℕ
rest_at None r docs = before text_cmp r docs
rest_at (Some v) r docs = 0

-- without a cursor it is the first one
abbrev pub rest_start : Option Cursor → Map Data → ℕ
rest_start None docs = 0
rest_start (Some c) docs = rest_at c.value c.reference docs
