-- The documents of processed entities.
use Rattle.std.proofs.Common.{◌≡◌, ℕ, Bool, true, false, List, [], ◌∷◌, Option, None, Some, Ok, bytes_eq, codes, refl, ap, sym, ◌∙◌}
use Rattle.std.specs.Prelude.{option_and_then}
use Rattle.cat_tree.specs.Ask.{child_of}
use Rattle.cat_tree.specs.Data.{Data, null, flag, whole, words, list, dict}
use Rattle.cat_tree.specs.Edit.{with_key}
use Rattle.cat_tree.proofs.Edits.{child_of-with_key_other, child_of-without_key_other}
use Rattle.cat_types.specs.Reference.{described, is_map, part_or, named_in}
use Rattle.cat_schema.specs.Forms.{may_be_there}
use Rattle.cat_collections.specs.Table.{Text}
use Rattle.cat_types.specs.declared.issue.Issue.{Issue}
use Rattle.cat_types.specs.declared.parts.Parts.{Parts}
use Rattle.cat_kinds.specs.Kinds.{answer, relations_of}
use Rattle.cat_stitch.specs.Document.{annotation_in, annotations_in, document, orphan_annotations, relations_shown, shown_metadata, status_of, with_orphan_mark, with_shown_metadata, with_status, with_uid}
use Rattle.cat_stitch.specs.Uid.{uid}
use Rattle.cat_layers.specs.Layered.{entity_relations, relations_in}
use Rattle.cat_layers.specs.Forms.{IsProcessed}
use Rattle.cat_layers.proofs.Edits.{child_of-put}
use Rattle.cat_layers.proofs.Entities.{child_of-put_map, map_by}
use Rattle.cat_layers.proofs.Offers.{is_map-with_key, named_alike}

-- the relations of a processed entity are all that its reference fields state
pub all_relations : (t : Data) (r : Text) → IsProcessed t r → entity_relations t r ≡ relations_of t r
all_relations t r h = ap (λ faults. relations_in (answer faults (relations_of t r))) h.references

-- an entity that has a reference is a map with a map of metadata
pub record HasMetadata (t : Data) : Type 0 where
  pub metadata : Data
  pub has : child_of (codes "metadata") t ≡ Some metadata
  pub map : is_map metadata ≡ true

metadata_in : (t : Data) (r : Text) (o : Option Data) → child_of (codes "metadata") t ≡ o → named_in t o ≡ Ok r → HasMetadata t
metadata_in t r None e h = cc
metadata_in t r (Some m) e h = record { metadata = m; has = e; map = map_by t m r h }

metadata_of : (t : Data) (r : Text) → described t ≡ Ok r → HasMetadata t
metadata_of t r h = metadata_in t r (child_of (codes "metadata") t) refl h

has_child : (k : List ℕ) (d c : Data) → child_of k d ≡ Some c → is_map d ≡ true
has_child k null c e = cc
has_child k (flag b) c e = cc
has_child k (whole z) c e = cc
has_child k (words s) c e = cc
has_child k (list ds) c e = cc
has_child k (dict ms) c e = refl

-- ---- the metadata that a document shows

with_status-other : (k : List ℕ) (issues : List Issue) (d : Data) → bytes_eq k (codes "status") ≡ false → child_of k (with_status issues d) ≡ child_of k d
with_status-other k [] d h = child_of-without_key_other k (codes "status") d h
with_status-other k (x ∷ xs) d h = child_of-with_key_other k (codes "status") (status_of (x ∷ xs)) d h

shown_in : (p : Parts) (m : Data) → child_of (codes "metadata") p.entity ≡ Some m → child_of (codes "metadata") (document p) ≡ Some (shown_metadata p m)
unfolding document
shown_in p m has =
    let with_found = λ (found : Option Data). with_shown_metadata p found p.entity in
    with_status-other (codes "metadata") p.issues (with_key (codes "relations") (relations_shown p.relations) (with_found (child_of (codes "metadata") p.entity))) refl
    ∙ (child_of-with_key_other (codes "metadata") (codes "relations") (relations_shown p.relations) (with_found (child_of (codes "metadata") p.entity)) refl
    ∙ (ap (λ found. child_of (codes "metadata") (with_found found)) has
    ∙ child_of-put (codes "metadata") (shown_metadata p m) p.entity m has))

with_shown-other : (k : List ℕ) (p : Parts) (found : Option Data) (d : Data) → bytes_eq k (codes "metadata") ≡ false → child_of k (with_shown_metadata p found d) ≡ child_of k d
with_shown-other k p None d h = refl
with_shown-other k p (Some m) d h = child_of-with_key_other k (codes "metadata") (shown_metadata p m) d h

kind_in : (p : Parts) → child_of (codes "kind") (document p) ≡ child_of (codes "kind") p.entity
unfolding document
kind_in p =
    let shown : Data = with_shown_metadata p (child_of (codes "metadata") p.entity) p.entity in
    with_status-other (codes "kind") p.issues (with_key (codes "relations") (relations_shown p.relations) shown) refl
    ∙ (child_of-with_key_other (codes "kind") (codes "relations") (relations_shown p.relations) shown refl
    ∙ with_shown-other (codes "kind") p (child_of (codes "metadata") p.entity) p.entity refl)

mark-other : (k : List ℕ) (orphan : Bool) (m : Data) → bytes_eq k (codes "annotations") ≡ false → child_of k (with_orphan_mark orphan m) ≡ child_of k m
mark-other k false m h = refl
mark-other k true m h = child_of-with_key_other k (codes "annotations") (orphan_annotations (annotations_in (child_of (codes "annotations") m))) m h

mark-map : (orphan : Bool) (m : Data) → is_map (with_orphan_mark orphan m) ≡ is_map m
mark-map false m = refl
mark-map true m = is_map-with_key (codes "annotations") (orphan_annotations (annotations_in (child_of (codes "annotations") m))) m

shown-other : (k : List ℕ) (p : Parts) (m : Data) → bytes_eq k (codes "annotations") ≡ false → bytes_eq k (codes "uid") ≡ false → child_of k (shown_metadata p m) ≡ child_of k m
shown-other k p m a u = mark-other k p.orphan (with_uid p.number m) a ∙ child_of-with_key_other k (codes "uid") (words (uid p.number)) m u

shown-map : (p : Parts) (m : Data) → is_map (shown_metadata p m) ≡ is_map m
shown-map p m = mark-map p.orphan (with_uid p.number m) ∙ is_map-with_key (codes "uid") (words (uid p.number)) m

-- ---- the mark of an orphan

annotations_map : (o : Option Data) → may_be_there is_map o ≡ true → is_map (annotations_in o) ≡ true
annotations_map None h = refl
annotations_map (Some a) h = h

marked : (m : Data) → is_map m ≡ true → may_be_there is_map (child_of (codes "annotations") m) ≡ true
    → option_and_then (child_of (codes "backstage.io/orphan")) (child_of (codes "annotations") (with_orphan_mark true m)) ≡ Some (words (codes "true"))
marked m map annotations =
    let a : Data = annotations_in (child_of (codes "annotations") m) in
    ap (option_and_then (child_of (codes "backstage.io/orphan"))) (child_of-put_map (codes "annotations") (orphan_annotations a) m map)
    ∙ child_of-put_map (codes "backstage.io/orphan") (words (codes "true")) a (annotations_map (child_of (codes "annotations") m) annotations)

-- ---- the documents

module _ (p : Parts) (r : Text) (h : IsProcessed p.entity r) where
  pub found : HasMetadata p.entity
  found = metadata_of p.entity r h.named

  pub is_entity_map : is_map p.entity ≡ true
  is_entity_map = has_child (codes "metadata") p.entity found.metadata found.has

  pub document_names : described (document p) ≡ Ok r
  document_names =
      let m : Data = found.metadata in
      let n : Data = shown_metadata p m in
      ap (named_in (document p)) (shown_in p m found.has)
      ∙ (named_alike p.entity (document p) m n (shown-map p m) (kind_in p)
      (ap (part_or (codes "default")) (shown-other (codes "namespace") p m refl refl))
      (shown-other (codes "name") p m refl refl)
      ∙ (sym (ap (named_in p.entity) found.has) ∙ h.named))

  pub document_orphan : p.orphan ≡ true → annotation_in (codes "backstage.io/orphan") (document p) ≡ Some (words (codes "true"))
  document_orphan orphan =
      let m : Data = found.metadata in
      let n : Data = with_uid p.number m in
      let look = λ (x : Data). option_and_then (child_of (codes "backstage.io/orphan")) (child_of (codes "annotations") x) in
      let there : may_be_there is_map (child_of (codes "annotations") m) ≡ true = sym (ap (λ o. may_be_there is_map (option_and_then (child_of (codes "annotations")) o)) found.has) ∙ h.annotations in
      ap (λ o. option_and_then (child_of (codes "backstage.io/orphan")) (option_and_then (child_of (codes "annotations")) o)) (shown_in p m found.has)
      ∙ (ap (λ b. look (with_orphan_mark b n)) orphan
      ∙ marked n (is_map-with_key (codes "uid") (words (uid p.number)) m ∙ found.map)
      (ap (may_be_there is_map) (child_of-with_key_other (codes "annotations") (codes "uid") (words (uid p.number)) m refl) ∙ there))
