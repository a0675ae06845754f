-- The schema of descriptors, after the Descriptor Format: the breaches of each rule, one rule after the other, and of all.
-- The comment above a rule says what must hold; its breaches are the places where it doesn't.
-- `t` is the descriptor, `m` its metadata, `s` its spec and `k` its kind.
use Rattle.std.specs.Prelude.{ℕ, List, [], ◌∷◌, ◌++◌, Bool, not, ◌&&◌, Option, Some, None, bytes_eq, option_and_then, if◌then◌else◌, codes}
use Rattle.std.specs.List.{flat_map, list_any}
use Rattle.cat_tree.specs.Ask.{child_of}
use Rattle.cat_tree.specs.Data.{Data}
use Rattle.cat_schema.specs.declared.form.Form.TheVariants.{Map, List as Listing, Words, Filled, ApiVersion, KindName, Name, NameOrEmpty, Namespace, Tag, LocationType, Presence, Link}
use Rattle.cat_schema.specs.declared.form.Wanted.TheVariants.{Needed, Optional}
use Rattle.cat_schema.specs.declared.faults.SchemaFault.{SchemaFault}
use Rattle.cat_schema.specs.declared.kind.Kind.{Kind}
use Rattle.cat_schema.specs.declared.kind.Kind.TheVariants.{Component, Api, Resource, System, Domain, Group, User, Location}
use Rattle.cat_schema.specs.Faults.{below, unless, field, fields, part_fields, members, values, keys, member_fields, lists}
use Rattle.cat_schema.specs.Fields.{FieldRow, field_rows, has_field}
use Rattle.cat_schema.specs.Kinds.{kind_named, required_texts, required_lists}
use Rattle.cat_types.specs.Reference.{is_map, text_at}

-- the key of the metadata
abbrev pub metadata : List ℕ
metadata = codes "metadata"

-- the key of the spec
abbrev pub spec : List ℕ
spec = codes "spec"

-- ---- the root

-- the descriptor is a map
abbrev pub rule_1 : Data → List SchemaFault
rule_1 t = unless (is_map t) 1 []

-- `apiVersion` is one of the two versions
abbrev pub rule_2 : Data → List SchemaFault
rule_2 t = field 2 (Needed ApiVersion) t [] (codes "apiVersion")

-- `kind` is the name of a kind
abbrev pub rule_3 : Data → List SchemaFault
rule_3 t = field 3 (Needed KindName) t [] (codes "kind")

-- `metadata` is a map
abbrev pub rule_4 : Data → List SchemaFault
rule_4 t = field 4 (Needed Map) t [] metadata

-- ---- the metadata

-- `metadata.name` is a name
abbrev pub rule_5 : Data → List SchemaFault
rule_5 m = field 5 (Needed Name) m metadata (codes "name")

-- `metadata.namespace` is absent or a namespace
abbrev pub rule_6 : Data → List SchemaFault
rule_6 m = field 6 (Optional Namespace) m metadata (codes "namespace")

-- `metadata.title` is absent or a text
abbrev pub rule_7 : Data → List SchemaFault
rule_7 m = field 7 (Optional Words) m metadata (codes "title")

-- `metadata.description` is absent or a text
abbrev pub rule_8 : Data → List SchemaFault
rule_8 m = field 8 (Optional Words) m metadata (codes "description")

-- `metadata.labels` is absent or a map whose keys are keys of labels
abbrev pub rule_9 : Data → List SchemaFault
rule_9 m = field 9 (Optional Map) m metadata (codes "labels") ++ keys 9 (child_of (codes "labels") m) (codes "metadata.labels")

-- the value of each label is empty or a name
abbrev pub rule_10 : Data → List SchemaFault
rule_10 m = values 10 NameOrEmpty (child_of (codes "labels") m) (codes "metadata.labels")

-- `metadata.annotations` is absent or a map whose keys are keys of annotations
abbrev pub rule_11 : Data → List SchemaFault
rule_11 m = field 11 (Optional Map) m metadata (codes "annotations") ++ keys 11 (child_of (codes "annotations") m) (codes "metadata.annotations")

-- the value of each annotation is a text
abbrev pub rule_12 : Data → List SchemaFault
rule_12 m = values 12 Words (child_of (codes "annotations") m) (codes "metadata.annotations")

-- `metadata.tags` is absent or a list
abbrev pub rule_13 : Data → List SchemaFault
rule_13 m = field 13 (Optional Listing) m metadata (codes "tags")

-- each tag is a tag
abbrev pub rule_14 : Data → List SchemaFault
rule_14 m = members 14 Tag (child_of (codes "tags") m) (codes "metadata.tags")

-- `metadata.links` is absent or a list
abbrev pub rule_15 : Data → List SchemaFault
rule_15 m = field 15 (Optional Listing) m metadata (codes "links")

-- each link is a map with a `url` that isn't empty
abbrev pub rule_16 : Data → List SchemaFault
rule_16 m = members 16 Link (child_of (codes "links") m) (codes "metadata.links")

-- the title, icon and type of each link are absent or texts
abbrev pub rule_17 : Data → List SchemaFault
rule_17 m =
    member_fields 17 (Optional Words) (child_of (codes "links") m) (codes "metadata.links") (codes "title" ∷ codes "icon" ∷ codes "type" ∷ [])

-- ---- the spec

-- `spec` is a map
abbrev pub rule_18 : Data → List SchemaFault
rule_18 t = field 18 (Needed Map) t [] spec

-- the texts that the kind requires are there and not empty
unfoldable pub rule_19 : Kind → Data → List SchemaFault
rule_19 k s = fields 19 (Needed Filled) s spec (required_texts k)

-- the lists that the kind requires, which are a group's children, are lists
unfoldable pub rule_20 : Kind → Data → List SchemaFault
rule_20 k s = fields 20 (Needed Listing) s spec (required_lists k)

-- a key is among these
abbrev pub is_among : List ℕ → List (List ℕ) → Bool
is_among key ks = list_any (λ k. bytes_eq k key) ks

-- the kind has the field, which is a single reference that it doesn't require
abbrev pub may_have_single : Kind → FieldRow → Bool
may_have_single k row = has_field k row && not row.is_list && not (is_among row.key (required_texts k))

-- the kind has the field, which is a list of references
abbrev pub has_list : Kind → FieldRow → Bool
has_list k row = has_field k row && row.is_list

-- such a single reference is absent or a text that isn't empty
abbrev pub single_reference : Kind → Data → FieldRow → List SchemaFault
single_reference k s row = if may_have_single k row then field 21 (Optional Filled) s spec row.key else []

-- each single reference of the kind is absent or a text that isn't empty
unfoldable pub rule_21 : Kind → Data → List SchemaFault
rule_21 k s = flat_map (single_reference k s) field_rows

-- a list is absent or a list; whether one that the kind requires is a list is asked by another rule
abbrev pub may_be_list : Kind → Data → FieldRow → List SchemaFault
may_be_list k s row = if is_among row.key (required_lists k) then [] else field 22 (Optional Listing) s spec row.key

-- such a list of references is absent or a list of texts that aren't empty
abbrev pub list_reference : Kind → Data → FieldRow → List SchemaFault
list_reference k s row =
    if has_list k row then may_be_list k s row ++ members 22 Filled (child_of row.key s) (below spec row.key) else []

-- each list of references of the kind is absent or a list of texts that aren't empty
unfoldable pub rule_22 : Kind → Data → List SchemaFault
rule_22 k s = flat_map (list_reference k s) field_rows

-- a profile is absent or a map, with these fields absent or texts
abbrev pub profile : Data → List SchemaFault
profile s =
    field 23 (Optional Map) s spec (codes "profile")
    ++ part_fields 23 (Optional Words) (child_of (codes "profile") s) (codes "spec.profile") (codes "displayName" ∷ codes "email" ∷ codes "picture" ∷ [])

-- the profile of a group or a user is absent or a map of texts
unfoldable pub rule_23 : Kind → Data → List SchemaFault
rule_23 Group s = profile s
rule_23 User s = profile s
rule_23 _ s = []

-- what a location says of its targets
abbrev pub targets : Data → List SchemaFault
targets s =
    field 24 (Optional LocationType) s spec (codes "type")
    ++ (field 24 (Optional Words) s spec (codes "target")
    ++ (lists 24 Words s spec (codes "targets" ∷ []) ++ field 24 (Optional Presence) s spec (codes "presence")))

-- the type, targets and presence of a location are absent or of their forms
unfoldable pub rule_24 : Kind → Data → List SchemaFault
rule_24 Location s = targets s
rule_24 _ s = []

-- ---- all

-- what the metadata breaks, rule after rule
unfoldable pub of_metadata : Data → List SchemaFault
of_metadata m =
    (rule_5 m ++ (rule_6 m ++ (rule_7 m ++ rule_8 m)))
    ++ ((rule_9 m ++ rule_10 m) ++ ((rule_11 m ++ rule_12 m) ++ ((rule_13 m ++ rule_14 m) ++ (rule_15 m ++ (rule_16 m ++ rule_17 m)))))

-- what the spec of a kind breaks, rule after rule
unfoldable pub of_spec : Kind → Data → List SchemaFault
of_spec k s = rule_19 k s ++ (rule_20 k s ++ (rule_21 k s ++ (rule_22 k s ++ (rule_23 k s ++ rule_24 k s))))

-- where the part is a map
abbrev pub of_map : (Data → List SchemaFault) → Option Data → List SchemaFault
of_map rules None = []
of_map rules (Some d) = if is_map d then rules d else []

-- nothing is asked of the spec where the kind isn't known
abbrev pub of_kind : Option Kind → Option Data → List SchemaFault
of_kind None part = []
of_kind (Some k) part = of_map (of_spec k) part

-- the kind that the descriptor names
abbrev pub kind_of : Data → Option Kind
kind_of t = option_and_then kind_named (text_at (child_of (codes "kind") t))

-- what a descriptor that is a map breaks: metadata that isn't a map has no fields to ask, nor has such a spec
unfoldable pub of_root : Data → List SchemaFault
of_root t =
    (rule_2 t ++ (rule_3 t ++ rule_4 t))
    ++ (of_map of_metadata (child_of metadata t) ++ (rule_18 t ++ of_kind (kind_of t) (child_of spec t)))

-- the breaches of a descriptor: where it isn't a map, nothing else is asked
unfoldable pub breaches : Data → List SchemaFault
breaches t = rule_1 t ++ (if is_map t then of_root t else [])
