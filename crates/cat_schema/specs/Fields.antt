-- The reference fields of the kinds, and the relations that they state: one table, which the rules and the relations of entities read.
use Rattle.std.specs.Prelude.{List, [], ◌∷◌, Bool, true, false, Option, Some, None, codes}
use Rattle.std.specs.List.{list_any}
use Rattle.std.specs.Option.{option_copied}
use Rattle.cat_collections.specs.Table.{Text}
use Rattle.cat_types.specs.declared.relation.RelKind.{RelKind}
use Rattle.cat_types.specs.declared.relation.RelKind.TheVariants.{OwnedBy, OwnerOf, PartOf, HasPart, ProvidesApi, ApiProvidedBy, ConsumesApi, ApiConsumedBy, DependsOn, DependencyOf, ChildOf, ParentOf, HasMember, MemberOf}
use Rattle.cat_schema.specs.declared.field.RefField.{RefField}
use Rattle.cat_schema.specs.declared.kind.Kind.{Kind}
use Rattle.cat_schema.specs.declared.kind.Kind.TheVariants.{Component, Api, Resource, System, Domain, Group, User}
use Rattle.cat_schema.specs.Kinds.{same_kind}

-- a field of `spec` that names other entities: the kinds that have it, its key, whether it is a list, the kind of a
-- reference that names none, the relation of the entity to what it names, and the relation the other way
pub record FieldRow : Type 0 where
  pub kinds : List Kind
  pub key : Text
  pub is_list : Bool
  pub default_kind : Option Text
  pub relation : RelKind
  pub reverse : RelKind

-- all reference fields, in the order in which faults stand
abbrev pub field_rows : List FieldRow
field_rows =
    record { kinds = Component ∷ Api ∷ Resource ∷ System ∷ Domain ∷ []; key = codes "owner"; is_list = false; default_kind = Some (codes "group"); relation = OwnedBy; reverse = OwnerOf }
    ∷ record { kinds = Component ∷ Api ∷ Resource ∷ []; key = codes "system"; is_list = false; default_kind = Some (codes "system"); relation = PartOf; reverse = HasPart }
    ∷ record { kinds = Component ∷ []; key = codes "subcomponentOf"; is_list = false; default_kind = Some (codes "component"); relation = PartOf; reverse = HasPart }
    ∷ record { kinds = Component ∷ []; key = codes "providesApis"; is_list = true; default_kind = Some (codes "api"); relation = ProvidesApi; reverse = ApiProvidedBy }
    ∷ record { kinds = Component ∷ []; key = codes "consumesApis"; is_list = true; default_kind = Some (codes "api"); relation = ConsumesApi; reverse = ApiConsumedBy }
    ∷ record { kinds = Component ∷ Resource ∷ []; key = codes "dependsOn"; is_list = true; default_kind = None; relation = DependsOn; reverse = DependencyOf }
    ∷ record { kinds = Component ∷ Resource ∷ []; key = codes "dependencyOf"; is_list = true; default_kind = None; relation = DependencyOf; reverse = DependsOn }
    ∷ record { kinds = System ∷ []; key = codes "domain"; is_list = false; default_kind = Some (codes "domain"); relation = PartOf; reverse = HasPart }
    ∷ record { kinds = Domain ∷ []; key = codes "subdomainOf"; is_list = false; default_kind = Some (codes "domain"); relation = PartOf; reverse = HasPart }
    ∷ record { kinds = Group ∷ []; key = codes "parent"; is_list = false; default_kind = Some (codes "group"); relation = ChildOf; reverse = ParentOf }
    ∷ record { kinds = Group ∷ []; key = codes "children"; is_list = true; default_kind = Some (codes "group"); relation = ParentOf; reverse = ChildOf }
    ∷ record { kinds = Group ∷ []; key = codes "members"; is_list = true; default_kind = Some (codes "user"); relation = HasMember; reverse = MemberOf }
    ∷ record { kinds = User ∷ []; key = codes "memberOf"; is_list = true; default_kind = Some (codes "group"); relation = MemberOf; reverse = HasMember }
    ∷ []

-- the row that a field of the code stands for
abbrev pub row_of : RefField → FieldRow
row_of f = record {
  kinds = f.kinds.now;
  key = f.key.now;
  is_list = f.is_list;
  default_kind = option_copied f.default_kind;
  relation = f.relation;
  reverse = f.reverse;
}

-- entities of the kind have the field
abbrev pub has_field : Kind → FieldRow → Bool
has_field k row = list_any (same_kind k) row.kinds
