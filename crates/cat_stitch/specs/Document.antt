-- The document of an entity: how the catalogue shows what it has of it.
use Rattle.std.specs.Prelude.{ℕ, Bool, true, false, List, [], ◌∷◌, Option, None, Some, map, option_and_then, unwrap_or, codes}
use Rattle.cat_tree.specs.Ask.{child_of}
use Rattle.cat_tree.specs.Data.{Data, words, list, dict, no_members, items_of, members_of}
use Rattle.cat_tree.specs.Edit.{with_key, without_key}
use Rattle.cat_types.specs.Relation.{kind_text}
use Rattle.cat_types.specs.declared.issue.Issue.{Issue}
use Rattle.cat_types.specs.declared.parts.Parts.{Parts}
use Rattle.cat_types.specs.declared.relation.Relation.{Relation}
use Rattle.cat_stitch.specs.Issues.{items_of_issues}
use Rattle.cat_stitch.specs.Uid.{uid}

-- ---- metadata

-- the annotations that metadata have, or a map without entries where they have none
abbrev pub annotations_in : Option Data → Data
annotations_in found = unwrap_or found (dict no_members)

-- annotations that say that the entity is an orphan
abbrev pub orphan_annotations : Data → Data
orphan_annotations annotations = with_key (codes "backstage.io/orphan") (words (codes "true")) annotations

-- an orphan's metadata have the annotation that says so
abbrev pub with_orphan_mark : Bool → Data → Data
with_orphan_mark false metadata = metadata
with_orphan_mark true metadata =
    with_key (codes "annotations") (orphan_annotations (annotations_in (child_of (codes "annotations") metadata))) metadata

-- the metadata with the unique id of the number
abbrev pub with_uid : ℕ → Data → Data
with_uid number metadata = with_key (codes "uid") (words (uid number)) metadata

-- the metadata that a document shows
abbrev pub shown_metadata : Parts → Data → Data
shown_metadata parts metadata = with_orphan_mark parts.orphan (with_uid parts.number metadata)

-- an entity with the metadata that its document shows, where it has metadata
abbrev pub with_shown_metadata : Parts → Option Data → Data → Data
with_shown_metadata parts None entity = entity
with_shown_metadata parts (Some metadata) entity = with_key (codes "metadata") (shown_metadata parts metadata) entity

-- ---- relations

-- a relation is shown by its target and the name of its kind
abbrev pub entry_of_relation : Relation → Data
entry_of_relation relation = dict (members_of (
    (codes "targetRef", words relation.target)
    ∷ (codes "type", words (kind_text relation.kind))
    ∷ []))

-- the relations in their order
abbrev pub relations_shown : List Relation → Data
relations_shown relations = list (items_of (map entry_of_relation relations))

-- ---- status

-- the status that shows issues
abbrev pub status_of : List Issue → Data
status_of issues = dict (members_of ((codes "items", items_of_issues issues) ∷ []))

-- a status stands exactly where there are issues
abbrev pub with_status : List Issue → Data → Data
with_status [] entity = without_key (codes "status") entity
with_status (issue ∷ issues) entity = with_key (codes "status") (status_of (issue ∷ issues)) entity

-- the status that a document shows, if it shows one
abbrev pub status_shown : List Issue → Option Data
status_shown [] = None
status_shown (issue ∷ issues) = Some (status_of (issue ∷ issues))

-- ---- the document

-- the entity with its relations, its issues and its unique id, and for an orphan the annotation that says so
unfoldable pub document : Parts → Data
document parts =
    with_status parts.issues (
    with_key (codes "relations") (relations_shown parts.relations) (
    with_shown_metadata parts (child_of (codes "metadata") parts.entity) parts.entity))

-- the annotation that a document has under a key
abbrev pub annotation_in : List ℕ → Data → Option Data
annotation_in key doc = option_and_then (child_of key) (option_and_then (child_of (codes "annotations")) (child_of (codes "metadata") doc))
