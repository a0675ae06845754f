-- What a document has under its fields.
use Rattle.std.proofs.Common.{◌≡◌, ℕ, Bool, true, false, List, [], ◌∷◌, refl, ap, ◌∙◌}
use Rattle.std.specs.Prelude.{⊤, Option, None, Some, bytes_eq, option_and_then, codes}
use Rattle.cat_types.specs.Reference.{is_map}
use Rattle.cat_tree.specs.Ask.{child_of}
use Rattle.cat_tree.specs.Data.{Data, null, flag, whole, words, list, dict}
use Rattle.cat_tree.specs.Edit.{with_key, without_key}
use Rattle.cat_tree.specs.Proper.{IsProper, Rise}
use Rattle.cat_tree.proofs.Edits.{child_of-with_key_same, child_of-with_key_other, child_of-without_key_other, member_at-drop_same, Rise-put}
use Rattle.cat_types.specs.declared.issue.Issue.{Issue}
use Rattle.cat_types.specs.declared.parts.Parts.{Parts}
use Rattle.cat_stitch.specs.Document.{annotation_in, annotations_in, document, orphan_annotations, relations_shown, shown_metadata, status_of, status_shown, with_orphan_mark, with_shown_metadata, with_status, with_uid}
use Rattle.cat_stitch.specs.Uid.{uid}

-- ---- maps

child_of-with_key : (k : List ℕ) (v d : Data) → is_map d ≡ true → child_of k (with_key k v d) ≡ Some v
child_of-with_key k v null h = cc
child_of-with_key k v (flag b) h = cc
child_of-with_key k v (whole z) h = cc
child_of-with_key k v (words s) h = cc
child_of-with_key k v (list ds) h = cc
child_of-with_key k v (dict ms) h = child_of-with_key_same k v ms

is_map-with_key : (k : List ℕ) (v d : Data) → is_map (with_key k v d) ≡ is_map d
is_map-with_key k v null = refl
is_map-with_key k v (flag b) = refl
is_map-with_key k v (whole z) = refl
is_map-with_key k v (words s) = refl
is_map-with_key k v (list ds) = refl
is_map-with_key k v (dict ms) = refl

-- what has an entry is a map
has_child : (k : List ℕ) (v d : Data) → child_of k d ≡ Some v → is_map d ≡ true
has_child k v null h = cc
has_child k v (flag b) h = cc
has_child k v (whole z) h = cc
has_child k v (words s) h = cc
has_child k v (list ds) h = cc
has_child k v (dict ms) h = refl

-- the keys of the map itself rise
abbrev Rises : Data → Type 0
Rises null = ⊤
Rises (flag b) = ⊤
Rises (whole z) = ⊤
Rises (words s) = ⊤
Rises (list ds) = ⊤
Rises (dict ms) = Rise ms

rises : (d : Data) → IsProper d → Rises d
rises null p = tt
rises (flag b) p = tt
rises (whole z) p = tt
rises (words s) p = tt
rises (list ds) p = tt
rises (dict ms) p = p.1

rises-with_key : (k : List ℕ) (v d : Data) → Rises d → Rises (with_key k v d)
rises-with_key k v null p = tt
rises-with_key k v (flag b) p = tt
rises-with_key k v (whole z) p = tt
rises-with_key k v (words s) p = tt
rises-with_key k v (list ds) p = tt
rises-with_key k v (dict ms) p = Rise-put k v ms p

child_of-without_key : (k : List ℕ) (d : Data) → Rises d → child_of k (without_key k d) ≡ None
child_of-without_key k null p = refl
child_of-without_key k (flag b) p = refl
child_of-without_key k (whole z) p = refl
child_of-without_key k (words s) p = refl
child_of-without_key k (list ds) p = refl
child_of-without_key k (dict ms) p = member_at-drop_same k ms p

-- ---- the entity, step by step

with_status-other : (k : List ℕ) (issues : List Issue) (d : Data) → bytes_eq k (codes "status") ≡ false → child_of k (with_status issues d) ≡ child_of k d
with_status-other k [] d h = child_of-without_key_other k (codes "status") d h
with_status-other k (x ∷ xs) d h = child_of-with_key_other k (codes "status") (status_of (x ∷ xs)) d h

with_status-status : (issues : List Issue) (d : Data) → is_map d ≡ true → Rises d → child_of (codes "status") (with_status issues d) ≡ status_shown issues
with_status-status [] d h p = child_of-without_key (codes "status") d p
with_status-status (x ∷ xs) d h p = child_of-with_key (codes "status") (status_of (x ∷ xs)) d h

with_metadata-other : (k : List ℕ) (p : Parts) (found : Option Data) (d : Data) → bytes_eq k (codes "metadata") ≡ false → child_of k (with_shown_metadata p found d) ≡ child_of k d
with_metadata-other k p None d h = refl
with_metadata-other k p (Some m) d h = child_of-with_key_other k (codes "metadata") (shown_metadata p m) d h

is_map-with_metadata : (p : Parts) (found : Option Data) (d : Data) → is_map (with_shown_metadata p found d) ≡ is_map d
is_map-with_metadata p None d = refl
is_map-with_metadata p (Some m) d = is_map-with_key (codes "metadata") (shown_metadata p m) d

-- the entity with its metadata and relations
abbrev shown : Parts → Data
shown p = with_key (codes "relations") (relations_shown p.relations) (with_shown_metadata p (child_of (codes "metadata") p.entity) p.entity)

is_map-shown : (p : Parts) → is_map p.entity ≡ true → is_map (shown p) ≡ true
is_map-shown p h =
    is_map-with_key (codes "relations") (relations_shown p.relations) (with_shown_metadata p (child_of (codes "metadata") p.entity) p.entity)
    ∙ (is_map-with_metadata p (child_of (codes "metadata") p.entity) p.entity ∙ h)

rises-with_metadata : (p : Parts) (found : Option Data) (d : Data) → Rises d → Rises (with_shown_metadata p found d)
rises-with_metadata p None d h = h
rises-with_metadata p (Some m) d h = rises-with_key (codes "metadata") (shown_metadata p m) d h

-- ---- the fields of the document

pub status_law : (p : Parts) → is_map p.entity ≡ true → IsProper p.entity → child_of (codes "status") (document p) ≡ status_shown p.issues
unfolding document
status_law p h proper =
    let m = with_shown_metadata p (child_of (codes "metadata") p.entity) p.entity in
    with_status-status p.issues (shown p) (is_map-shown p h)
    (rises-with_key (codes "relations") (relations_shown p.relations) m (rises-with_metadata p (child_of (codes "metadata") p.entity) p.entity (rises p.entity proper)))

pub relations_law : (p : Parts) → is_map p.entity ≡ true → child_of (codes "relations") (document p) ≡ Some (relations_shown p.relations)
unfolding document
relations_law p h =
    let m = with_shown_metadata p (child_of (codes "metadata") p.entity) p.entity in
    with_status-other (codes "relations") p.issues (shown p) refl
    ∙ child_of-with_key (codes "relations") (relations_shown p.relations) m (is_map-with_metadata p (child_of (codes "metadata") p.entity) p.entity ∙ h)

pub others_law : (p : Parts) (k : List ℕ) → bytes_eq k (codes "metadata") ≡ false → bytes_eq k (codes "relations") ≡ false → bytes_eq k (codes "status") ≡ false
    → child_of k (document p) ≡ child_of k p.entity
unfolding document
others_law p k a b c =
    let m = with_shown_metadata p (child_of (codes "metadata") p.entity) p.entity in
    with_status-other k p.issues (shown p) c
    ∙ (child_of-with_key_other k (codes "relations") (relations_shown p.relations) m b
    ∙ with_metadata-other k p (child_of (codes "metadata") p.entity) p.entity a)

-- the metadata that the document shows
metadata_law : (p : Parts) (m : Data) → child_of (codes "metadata") p.entity ≡ Some m → child_of (codes "metadata") (document p) ≡ Some (shown_metadata p m)
unfolding document
metadata_law p m e =
    let with_found = λ (found : Option Data). with_shown_metadata p found p.entity in
    with_status-other (codes "metadata") p.issues (shown p) refl
    ∙ (child_of-with_key_other (codes "metadata") (codes "relations") (relations_shown p.relations) (with_found (child_of (codes "metadata") p.entity)) refl
    ∙ (ap (λ found. child_of (codes "metadata") (with_found found)) e
    ∙ child_of-with_key (codes "metadata") (shown_metadata p m) p.entity (has_child (codes "metadata") m p.entity e)))

mark-uid : (orphan : Bool) (m : Data) → child_of (codes "uid") (with_orphan_mark orphan m) ≡ child_of (codes "uid") m
mark-uid false m = refl
mark-uid true m = child_of-with_key_other (codes "uid") (codes "annotations") (orphan_annotations (annotations_in (child_of (codes "annotations") m))) m refl

pub uid_law : (p : Parts) (m : Data) → child_of (codes "metadata") p.entity ≡ Some m → is_map m ≡ true
    → option_and_then (child_of (codes "uid")) (child_of (codes "metadata") (document p)) ≡ Some (words (uid p.number))
uid_law p m e h =
    ap (option_and_then (child_of (codes "uid"))) (metadata_law p m e)
    ∙ (mark-uid p.orphan (with_uid p.number m) ∙ child_of-with_key (codes "uid") (words (uid p.number)) m h)

-- the annotation of an orphan, in metadata with annotations
orphan_mark : (m annotations : Data) → is_map m ≡ true → child_of (codes "annotations") m ≡ Some annotations → is_map annotations ≡ true
    → option_and_then (child_of (codes "backstage.io/orphan")) (child_of (codes "annotations") (with_orphan_mark true m)) ≡ Some (words (codes "true"))
orphan_mark m annotations h e g =
    let found = child_of (codes "annotations") m in
    ap (option_and_then (child_of (codes "backstage.io/orphan"))) (child_of-with_key (codes "annotations") (orphan_annotations (annotations_in found)) m h)
    ∙ (ap (λ x. child_of (codes "backstage.io/orphan") (orphan_annotations (annotations_in x))) e
    ∙ child_of-with_key (codes "backstage.io/orphan") (words (codes "true")) annotations g)

pub orphan_law : (p : Parts) (m annotations : Data) → child_of (codes "metadata") p.entity ≡ Some m → is_map m ≡ true
    → child_of (codes "annotations") m ≡ Some annotations → is_map annotations ≡ true → p.orphan ≡ true
    → annotation_in (codes "backstage.io/orphan") (document p) ≡ Some (words (codes "true"))
orphan_law p m annotations e h a g o =
    let look = λ (x : Data). option_and_then (child_of (codes "backstage.io/orphan")) (child_of (codes "annotations") x) in
    let n = with_uid p.number m in
    ap (λ x. option_and_then (child_of (codes "backstage.io/orphan")) (option_and_then (child_of (codes "annotations")) x)) (metadata_law p m e)
    ∙ (ap (λ b. look (with_orphan_mark b n)) o
    ∙ orphan_mark n annotations (is_map-with_key (codes "uid") (words (uid p.number)) m ∙ h)
    (child_of-with_key_other (codes "annotations") (codes "uid") (words (uid p.number)) m refl ∙ a) g)
