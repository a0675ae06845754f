-- The relations that an entity states, or the reference fields that have no reading.
use Rattle.std.specs.Prelude.{ℕ, List, [], ◌∷◌, ◌++◌, Option, Some, None, Result, Ok, Err, option_and_then, unwrap_or, codes}
use Rattle.std.specs.Fmt.{decimal}
use Rattle.cat_tree.specs.Data.{Data}
use Rattle.cat_tree.specs.Ask.{child_of}
use Rattle.cat_types.specs.Reference.{text_at, parsed}
use Rattle.cat_types.specs.declared.fault.RefFault.{RefFault}
use Rattle.cat_collections.specs.Table.{Text, keys, tabulate}
use Rattle.cat_types.specs.Relation.{relation_cmp}
use Rattle.cat_types.specs.declared.relation.Relation.{Relation}
use Rattle.cat_types.specs.declared.relation.RelKind.{RelKind}
use Rattle.cat_types.specs.declared.relation.RelKind.TheVariants.{OwnedBy, OwnerOf, PartOf, HasPart, ProvidesApi, ApiProvidedBy, ConsumesApi, ApiConsumedBy, DependsOn, DependencyOf, ChildOf, ParentOf, HasMember, MemberOf}
use Rattle.cat_kinds.specs.Mentions.{Mention, mentions}
use Rattle.cat_kinds.specs.declared.answer.KindFault.{KindFault}
use Rattle.cat_kinds.specs.declared.answer.KindAnswer.{KindAnswer}
use Rattle.cat_kinds.specs.declared.answer.KindAnswer.TheVariants.{Faults, Relations}

-- the namespace of a reference that names none: the entity's own, which is `default` where it isn't a text
unfoldable pub namespace_of : Data → Text
namespace_of d = unwrap_or (text_at (option_and_then (child_of (codes "namespace")) (child_of (codes "metadata") d))) (codes "default")

-- the reference that a mention names, with the default kind of its field
abbrev pub reading_of : Text → Mention → Result Text RefFault
reading_of namespace m = parsed m.text m.field.default_kind namespace

-- the dotted path of a field, with a position below it where there is one
abbrev pub placed : Text → Option ℕ → Text
placed key None = codes "spec." ++ key
placed key (Some position) = (codes "spec." ++ key) ++ 46 ∷ decimal position

-- the dotted path of a mention, with its position from 0 where the field is a list
abbrev pub place_of : Mention → Text
place_of m = placed m.field.key m.position

-- the fault of a mention that has no reading
abbrev pub fault_of : Mention → Result Text RefFault → List KindFault
fault_of m (Ok target) = []
fault_of m (Err fault) = record { place = place_of m; fault = fault } ∷ []

-- that the source stands in a relation of this kind to the target
abbrev pub relation : Text → RelKind → Text → Relation
relation source kind target = record { source = source; kind = kind; target = target }

-- both directions of a mention that has a reading
abbrev pub both_ways : Text → Mention → Result Text RefFault → List Relation
both_ways source m (Ok target) = relation source m.field.relation target ∷ relation target m.field.reverse source ∷ []
both_ways source m (Err fault) = []

-- the faults of these mentions, read in a namespace, one after the other
abbrev pub faults_of : Text → List Mention → List KindFault
faults_of namespace [] = []
faults_of namespace (m ∷ ms) = fault_of m (reading_of namespace m) ++ faults_of namespace ms

-- the relations that these mentions state, read in a namespace, one after the other
abbrev pub stated_by : Text → Text → List Mention → List Relation
stated_by source namespace [] = []
stated_by source namespace (m ∷ ms) = both_ways source m (reading_of namespace m) ++ stated_by source namespace ms

-- each relation once, by source, name of the kind, and target
abbrev pub in_order : List Relation → List Relation
in_order relations = keys (tabulate relation_cmp relations (λ x. Some (tt {0})))

-- the mentions that have no reading, in the order of the fields and of their lists
unfoldable pub kind_faults : Data → List KindFault
kind_faults d = faults_of (namespace_of d) (mentions d)

-- the relations that the fields of an entity state, both ways, each once and in order
unfoldable pub relations_of : Data → Text → List Relation
relations_of d source = in_order (stated_by source (namespace_of d) (mentions d))

-- these faults where there is one, else these relations
abbrev pub answer : List KindFault → List Relation → KindAnswer
answer [] relations = Relations relations
answer (fault ∷ faults) relations = Faults (fault ∷ faults)

-- the faults where there is one, else the relations
abbrev pub answer_of : Data → Text → KindAnswer
answer_of d source = answer (kind_faults d) (relations_of d source)

-- ---- the other direction

-- the kind of a relation seen from its target
abbrev pub reverse : RelKind → RelKind
reverse OwnedBy = OwnerOf
reverse OwnerOf = OwnedBy
reverse PartOf = HasPart
reverse HasPart = PartOf
reverse ProvidesApi = ApiProvidedBy
reverse ApiProvidedBy = ProvidesApi
reverse ConsumesApi = ApiConsumedBy
reverse ApiConsumedBy = ConsumesApi
reverse DependsOn = DependencyOf
reverse DependencyOf = DependsOn
reverse ChildOf = ParentOf
reverse ParentOf = ChildOf
reverse HasMember = MemberOf
reverse MemberOf = HasMember

-- a relation seen from its target
abbrev pub reversed : Relation → Relation
reversed x = relation x.target (reverse x.kind) x.source
