-- Relations between entities: the names of their kinds, and their order.
use Rattle.std.specs.Prelude.{codes}
use Rattle.std.specs.declared.cmp.Ordering.{Ordering}
use Rattle.std.specs.Ordering.{ordering_then}
use Rattle.cat_collections.specs.Table.{Text, text_cmp}
use Rattle.cat_types.specs.declared.relation.Relation.{Relation}
use Rattle.cat_types.specs.declared.relation.RelKind.{RelKind}
use Rattle.cat_types.specs.declared.relation.RelKind.TheVariants.{OwnedBy, OwnerOf, PartOf, HasPart, ProvidesApi, ApiProvidedBy, ConsumesApi, ApiConsumedBy, DependsOn, DependencyOf, ChildOf, ParentOf, HasMember, MemberOf}

-- the name of a kind of relation
abbrev pub kind_text : RelKind → Text
kind_text OwnedBy = codes "ownedBy"
kind_text OwnerOf = codes "ownerOf"
kind_text PartOf = codes "partOf"
kind_text HasPart = codes "hasPart"
kind_text ProvidesApi = codes "providesApi"
kind_text ApiProvidedBy = codes "apiProvidedBy"
kind_text ConsumesApi = codes "consumesApi"
kind_text ApiConsumedBy = codes "apiConsumedBy"
kind_text DependsOn = codes "dependsOn"
kind_text DependencyOf = codes "dependencyOf"
kind_text ChildOf = codes "childOf"
kind_text ParentOf = codes "parentOf"
kind_text HasMember = codes "hasMember"
kind_text MemberOf = codes "memberOf"

-- by source, name of the kind, and target
abbrev pub relation_cmp : Relation → Relation → Ordering
relation_cmp x y = ordering_then (text_cmp x.source y.source) (ordering_then (text_cmp (kind_text x.kind) (kind_text y.kind)) (text_cmp x.target y.target))
