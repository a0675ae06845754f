-- What each emitter emits, and the relations of each source.
use Rattle.std.specs.Prelude.{Bool, true, false, not, cond, List, [], ◌∷◌, map, unwrap_or}
use Rattle.std.specs.List.{filter, flat_map, list_any}
use Rattle.std.specs.Ordering.{eq_by_cmp}
use Rattle.cat_types.specs.declared.relation.Relation.{Relation}
use Rattle.cat_types.specs.Relation.{relation_cmp}
use Rattle.cat_collections.specs.Table.{Text, Map, get, same_text}
use Rattle.cat_collections.specs.Order.{in_order}

-- the relations that each emitter emits, in order of emitter
abbrev pub Emitted : Type 0
Emitted = Map (List Relation)

-- all relations that are emitted, in order of emitter
abbrev pub all_emitted : Emitted → List Relation
all_emitted m = flat_map (λ e. e.1) m

-- what an emitter emits: nothing, where it isn't in the table
abbrev pub emitted_by : Emitted → Text → List Relation
emitted_by m emitter = unwrap_or (get m emitter) []

-- the sorted distinct relations of a list with this source
abbrev pub from_source : Text → List Relation → List Relation
from_source source relations = in_order relation_cmp (filter (λ x. same_text source x.source) relations)

-- the sorted distinct relations of all emitters with this source
abbrev pub relations_of : Emitted → Text → List Relation
relations_of m source = from_source source (all_emitted m)

-- whether a relation is in a list
abbrev pub has : Relation → List Relation → Bool
has x xs = list_any (eq_by_cmp relation_cmp x) xs

-- the relations of the first list that aren't in the second, in order, each once
abbrev pub only_in : List Relation → List Relation → List Relation
only_in xs ys = filter (λ x. not (has x ys)) (in_order relation_cmp xs)

-- the sources of relations
abbrev pub sources : List Relation → List Text
sources relations = map (λ x. x.source) relations

-- whether a list has no items
abbrev pub is_empty : {A : Type 0} → List A → Bool
is_empty [] = true
is_empty (x ∷ xs) = false

-- whether a relation is emitted in one of two tables alone
abbrev pub comes_or_goes : Emitted → Emitted → Relation → Bool
comes_or_goes before after x = cond (has x (all_emitted before)) (not (has x (all_emitted after))) (has x (all_emitted after))
