-- Rows of offers, by arrival, by the entity that gave them and by their reference.
use Rattle.std.specs.Prelude.{◌≡◌, ℕ, Bool, true, false, is_some, List, [], ◌∷◌}
use Rattle.std.specs.Option.{unwrap_or}
use Rattle.std.specs.Ordering.{nat_cmp}
use Rattle.std.specs.List.{filter, list_any}
use Rattle.std.specs.FinMap.Entries.{is_sorted}
use Rattle.std.specs.declared.cmp.Ordering.{Ordering}
use Rattle.std.specs.declared.option.Option.{Option}
use Rattle.std.specs.declared.option.Option.TheVariants.{None, Some}
use Rattle.cat_collections.specs.Table.{Map, Text, find, get, keys, put, same_text, text_cmp}
use Rattle.cat_collections.specs.Rows.{without}
use Rattle.cat_target.specs.Targets.{read_names}
use Rattle.cat_model.specs.declared.types.Row.{Row}
use Rattle.cat_model.specs.declared.types.Origin.{Origin}
use Rattle.cat_model.specs.declared.types.Origin.TheVariants.{Provider, Entity}

-- rows by arrival
abbrev pub Rows : Type 0
Rows = List (ℕ × Row)

-- the row with this arrival
abbrev pub row_at : Rows → ℕ → Option Row
row_at rows a = find nat_cmp a rows

-- ---- rows by origin and by reference

-- whether two origins are one
abbrev pub same_origin : Origin → Origin → Bool
same_origin (Provider p) (Provider q) = same_text p q
same_origin (Provider p) (Entity e) = false
same_origin (Entity e) (Provider q) = false
same_origin (Entity e) (Entity f) = same_text e f

-- whether a row is of this origin
abbrev pub is_from : Origin → Option Row → Bool
is_from o None = false
is_from o (Some row) = same_origin o row.origin

-- the arrivals of the rows of an origin
abbrev pub given : Rows → Origin → List ℕ
given rows o = filter (λ a. is_from o (row_at rows a)) (keys rows)

-- whether a row is of this reference
abbrev pub is_named : Text → Option Row → Bool
is_named r None = false
is_named r (Some row) = same_text r row.reference

-- the arrivals of the rows of a reference
abbrev pub named : Rows → Text → List ℕ
named rows r = filter (λ a. is_named r (row_at rows a)) (keys rows)

-- the shelf names that the descriptor of a row may read
abbrev pub names_of : Option Row → List Text
names_of None = []
names_of (Some row) = read_names row.offered.tree

-- whether the descriptor of a row may read a shelf name
abbrev pub may_read : Text → Option Row → Bool
may_read t row = list_any (same_text t) (names_of row)

-- the arrivals of the rows whose descriptors may read a shelf name
abbrev pub reading : Rows → Text → List ℕ
reading rows t = filter (λ a. may_read t (row_at rows a)) (keys rows)

-- the row with this arrival is of this origin and reference
pub record IsRowAt (rows : Rows) (a : ℕ) (o : Origin) (r : Text) : Type 0 where
  pub row : Row
  pub at : row_at rows a ≡ Some row
  pub from : row.origin ≡ o
  pub names : row.reference ≡ r

-- ---- their indices

-- arrivals in order, each with nothing
abbrev pub Arrivals : Type 0
Arrivals = List (ℕ × Unit {0})

-- the arrivals of a set, if there is one
abbrev pub arrivals_of : Option Arrivals → List ℕ
arrivals_of None = []
arrivals_of (Some set) = keys set

-- the arrivals by entity and by reference are those of the rows
pub record IsIndexed (rows : Rows) (by_entity by_reference : Map Arrivals) : Type 0 where
  pub entities : (e : Text) → arrivals_of (get by_entity e) ≡ given rows (Entity e)
  pub references : (r : Text) → arrivals_of (get by_reference r) ≡ named rows r

-- the set of a key, with one arrival more
abbrev pub set_with : {K : Type 0} → (K → K → Ordering) → K → ℕ → List (K × Arrivals) → Arrivals
set_with R k a index = put nat_cmp a (tt {0}) (unwrap_or (find R k index) [])

-- an index with one arrival more under a key
abbrev pub with_arrival : {K : Type 0} → (K → K → Ordering) → K → ℕ → List (K × Arrivals) → List (K × Arrivals)
with_arrival R k a index = put R k (set_with R k a index) index

-- the set that comes in rises
abbrev pub Rises : {K : Type 0} → (K → K → Ordering) → K → ℕ → List (K × Arrivals) → Type 0
Rises R k a index = is_sorted nat_cmp (set_with R k a index) ≡ true

-- an index by entity, with one arrival more of an origin
abbrev pub with_given : Origin → ℕ → Map Arrivals → Map Arrivals
with_given (Provider p) a index = index
with_given (Entity e) a index = with_arrival text_cmp e a index

abbrev pub GivenRises : Origin → ℕ → Map Arrivals → Type 0
GivenRises (Provider p) a index = Unit {0}
GivenRises (Entity e) a index = Rises text_cmp e a index

-- the set of a key, with one arrival less
abbrev pub set_without : {K : Type 0} → (K → K → Ordering) → K → ℕ → List (K × Arrivals) → Arrivals
set_without R k a index = without nat_cmp a (unwrap_or (find R k index) [])

-- an index with this set under a key; where it is empty, with none
abbrev pub with_set : {K : Type 0} → (K → K → Ordering) → K → Arrivals → List (K × Arrivals) → List (K × Arrivals)
with_set R k [] index = without R k index
with_set R k (e ∷ es) index = put R k (e ∷ es) index

-- an index with one arrival less under a key
abbrev pub without_arrival : {K : Type 0} → (K → K → Ordering) → K → ℕ → List (K × Arrivals) → List (K × Arrivals)
without_arrival R k a index = with_set R k (set_without R k a index) index

-- an index by entity, with one arrival less of an origin
abbrev pub without_given : Origin → ℕ → Map Arrivals → Map Arrivals
without_given (Provider p) a index = index
without_given (Entity e) a index = without_arrival text_cmp e a index

-- the set that is left rises
abbrev pub RisesLess : {K : Type 0} → (K → K → Ordering) → K → ℕ → List (K × Arrivals) → Type 0
RisesLess R k a index = is_sorted nat_cmp (set_without R k a index) ≡ true

abbrev pub GivenRisesLess : Origin → ℕ → Map Arrivals → Type 0
GivenRisesLess (Provider p) a index = Unit {0}
GivenRisesLess (Entity e) a index = RisesLess text_cmp e a index

-- ---- the index by shelf name

-- whether an arrival stands under a name
abbrev pub has_arrival : Text → ℕ → Map Arrivals → Bool
has_arrival t a index = is_some (find nat_cmp a (unwrap_or (get index t) []))

-- an arrival stands under a name exactly where its row may read it
pub record AreRead (rows : Rows) (by_name : Map Arrivals) : Type 0 where
  pub read : (t : Text) (a : ℕ) → has_arrival t a by_name ≡ may_read t (row_at rows a)

-- an index with one arrival more under each of these names
abbrev pub with_names : List Text → ℕ → Map Arrivals → Map Arrivals
with_names [] a index = index
with_names (k ∷ ks) a index = with_names ks a (with_arrival text_cmp k a index)

-- an index with one arrival less under each of these names
abbrev pub without_names : List Text → ℕ → Map Arrivals → Map Arrivals
without_names [] a index = index
without_names (k ∷ ks) a index = without_names ks a (without_arrival text_cmp k a index)

-- an index in which the arrival stands under the names of this row, and no longer under those of the row that it had
abbrev pub with_read : Rows → ℕ → Row → Map Arrivals → Map Arrivals
with_read rows a row index = with_names (names_of (Some row)) a (without_names (names_of (row_at rows a)) a index)
