-- Changes of the references under terms, and those that filters find.
use Rattle.std.specs.Prelude.{◌≡◌, ℕ, List, [], ◌∷◌, length, map, Bool, false, not, ◌==◌, ◌&&◌, ◌||◌, if◌then◌else◌, option_map, unwrap_or}
use Rattle.std.specs.List.{filter, filter_map, flat_map, list_any, list_all}
use Rattle.std.specs.Ordering.{eq_by_cmp}
use Rattle.cat_tree.specs.Data.{Data}
use Rattle.cat_collections.specs.Places.{first_from}
use Rattle.cat_collections.specs.Rows.{without}
use Rattle.cat_collections.specs.Table.{Map, get, keys, put, puts, text_cmp}
pub use Rattle.cat_state_parts.specs.Index.{Set, has, Lists, term_cmp, set_at, terms_at, has_term, AreLists, AgreeBeyond, with_document}
use Rattle.cat_state_parts.specs.Rows.{folded}
use Rattle.cat_search.specs.Filter.{is_accepted, matching}
use Rattle.cat_search.specs.Terms.{Term, condition_term}
use Rattle.cat_search.specs.declared.condition.Condition.{Condition}

-- ---- changes

-- with the documents that the references have among others, or with none there
abbrev pub with_documents : List (List ℕ) → Map Data → Map Data → Map Data
with_documents [] docs m = m
with_documents (r ∷ rs) docs m = with_documents rs docs (with_document r (get docs r) m)

-- these references are in the set, too
abbrev pub with_references : List (List ℕ) → Set → Set
with_references [] s = s
with_references (r ∷ rs) s = with_references rs (put text_cmp r (tt {0}) s)

-- the set without these references
abbrev pub without_references : List (List ℕ) → Set → Set
without_references [] s = s
without_references (r ∷ rs) s = without_references rs (without text_cmp r s)

-- these references under the term, which goes where there are none
abbrev pub with_set : Term → Set → Lists → Lists
with_set t s lists = if length s == 0 then without term_cmp t lists else put term_cmp t s lists

-- the references come under the term
abbrev pub entered : Term → List (List ℕ) → Lists → Lists
entered t rs lists = put term_cmp t (with_references rs (set_at lists t)) lists

-- the references go from under the term
abbrev pub struck : Term → List (List ℕ) → Lists → Lists
struck t rs lists = with_set t (without_references rs (set_at lists t)) lists

-- a term and a reference under it
abbrev pub Posting : Type 0
Posting = Term × List ℕ

-- the terms of the references' documents, each with its reference
abbrev pub postings : Map Data → List (List ℕ) → List Posting
postings docs rs = flat_map (λ r. map (λ t. (t, r)) (terms_at docs r)) rs

-- one of the postings is this one
abbrev pub has_posting : Term → List ℕ → List Posting → Bool
has_posting t r ps = list_any (λ p. eq_by_cmp term_cmp t p.0 && eq_by_cmp text_cmp r p.1) ps

-- a reference stands under a term where it did before, and where a posting says so
abbrev pub AreEntered : List Posting → Lists → Lists → Type 0
AreEntered ps old new = (t : Term) (r : List ℕ) → has (set_at new t) r ≡ (has_posting t r ps || has (set_at old t) r)

-- a reference stands under a term where it did before, unless a posting says so
abbrev pub AreStruck : List Posting → Lists → Lists → Type 0
AreStruck ps old new = (t : Term) (r : List ℕ) → has (set_at new t) r ≡ (not (has_posting t r ps) && has (set_at old t) r)

-- ---- finding

-- the references of either
abbrev pub union : Set → Set → Set
union s u = puts text_cmp u s

-- the reference is in each of the sets
abbrev pub in_all : List Set → List ℕ → Bool
in_all ss r = list_all (λ s. has s r) ss

-- the references that are in each of the sets
abbrev pub common : List Set → Set
common [] = []
common (s ∷ ss) = filter (λ e. in_all (s ∷ ss) e.0) s

-- the references at a key
abbrev pub at_key : Map Set → List ℕ → Set
at_key m key = unwrap_or (get m (folded key)) []

-- the references under the condition are at its key, too
abbrev pub with_condition : Lists → Condition → Map Set → Map Set
with_condition lists c m = put text_cmp (folded c.key) (union (set_at lists (condition_term c)) (at_key m c.key)) m

-- for each key of the conditions, the references under one of those with the key
abbrev pub by_key : Lists → List Condition → Map Set
by_key lists [] = []
by_key lists (c ∷ cs) = with_condition lists c (by_key lists cs)

-- the references that are found for each key of the conditions
abbrev pub accepted : Lists → List Condition → Set
accepted lists cs = common (map (λ c. at_key (by_key lists cs) c.key) cs)

-- these references, and those that are found for one of the filters
abbrev pub all_accepted : Lists → List (List Condition) → Set → Set
all_accepted lists [] s = s
all_accepted lists (cs ∷ fs) s = all_accepted lists fs (union s (accepted lists cs))

-- the reference has a document that one of the filters accepts
abbrev pub is_accepted_at : List (List Condition) → Map Data → List ℕ → Bool
is_accepted_at fs docs r = unwrap_or (option_map (is_accepted fs) (get docs r)) false

-- the reference is among these just where its document is accepted
abbrev pub corrected_at : List (List Condition) → Map Data → List ℕ → Set → Set
corrected_at fs docs r s = if is_accepted_at fs docs r then put text_cmp r (tt {0}) s else without text_cmp r s

-- each of the pending references is among these just where its document is accepted
abbrev pub corrected : List (List Condition) → Map Data → Set → Set → Set
corrected fs docs [] s = s
corrected fs docs (e ∷ es) s = corrected fs docs es (corrected_at fs docs e.0 s)

-- the references of the documents that one of the filters accepts, in order
abbrev pub found : List (List Condition) → Map Data → List (List ℕ)
found fs docs = keys (matching fs docs)

-- the documents of the references that are in a set
abbrev pub documents_of : Map Data → Set → Map Data
documents_of docs s = filter_map (λ e. first_from text_cmp e.0 docs) s

-- a filter has no conditions
abbrev pub has_free : List (List Condition) → Bool
has_free fs = list_any (λ cs. length cs == 0) fs

-- there is no filter, or one without conditions
abbrev pub accepts_all : List (List Condition) → Bool
accepts_all fs = length fs == 0 || has_free fs
