-- What an entity offers: the descriptors of the texts of its targets, each with annotations that say where it comes from.
use Rattle.std.specs.Prelude.{ℕ, List, [], ◌∷◌, ◌++◌, Bool, Option, Some, None, Result, Ok, Err, map, unwrap_or, if◌then◌else◌, option_and_then, codes}
use Rattle.std.specs.List.{list_any, flat_map}
use Rattle.cat_tree.specs.Data.{Data, words, dict, no_members}
use Rattle.cat_tree.specs.Ask.{child_of}
use Rattle.cat_tree.specs.Edit.{with_key}
use Rattle.cat_types.specs.Reference.{is_map, text_at}
use Rattle.cat_collections.specs.Table.{Text, Map, same_text}
use Rattle.cat_types.specs.declared.input.Offered.{Offered}
use Rattle.cat_types.specs.declared.work.Content.{Content}
use Rattle.cat_inputs.specs.declared.fault.ShelfFault.{ShelfFault}
use Rattle.cat_inputs.specs.declared.shelf.Listed.{Listed}
use Rattle.cat_inputs.specs.Shelf.{shelf_reading}

-- the annotation that says where an entity comes from
abbrev pub location_key : Text
location_key = codes "backstage.io/managed-by-location"

-- the annotation that says where it comes from at first
abbrev pub origin_key : Text
origin_key = codes "backstage.io/managed-by-origin-location"

-- the annotations of an entity, where it has them
abbrev pub annotations_of : Data → Option Data
annotations_of d = option_and_then (child_of (codes "annotations")) (child_of (codes "metadata") d)

-- where what a parent offers comes from at first: where the parent itself does, else from this target
unfoldable pub origin_of : Data → Text → Text
origin_of parent name = unwrap_or (text_at (option_and_then (child_of origin_key) (annotations_of parent))) name

-- annotations with these two set
abbrev pub located : Text → Text → Data → Data
located origin name annotations = with_key origin_key (words origin) (with_key location_key (words name) annotations)

-- a descriptor with these annotations in its metadata
abbrev pub with_annotations : Data → Data → Data → Data
with_annotations d metadata annotations =
    with_key (codes "metadata") (with_key (codes "annotations") annotations metadata) d

-- a descriptor whose annotations say that it comes from this target, unless they are there and no map
abbrev pub annotated_in : Text → Text → Data → Data → Option Data → Data
annotated_in origin name d metadata None = with_annotations d metadata (located origin name (dict no_members))
annotated_in origin name d metadata (Some annotations) =
    if is_map annotations then with_annotations d metadata (located origin name annotations) else d

-- a descriptor with annotations, where it has metadata
abbrev pub annotated_at : Text → Text → Data → Option Data → Data
annotated_at origin name d None = d
annotated_at origin name d (Some metadata) = annotated_in origin name d metadata (child_of (codes "annotations") metadata)

-- the tree that is offered in place of a descriptor
unfoldable pub annotated : Text → Text → Data → Data
annotated origin name d = annotated_at origin name d (child_of (codes "metadata") d)

-- the offer of a descriptor of the target with this name
abbrev pub offer : Text → Text → Listed → Text × Offered
offer origin name x = (x.reference, record { key = name; tree = annotated origin name x.tree })

-- the offers of the descriptors that a text lists
abbrev pub listed_offers : Text → Text → Result (List Listed) ShelfFault → Map Offered
listed_offers origin name (Ok xs) = map (offer origin name) xs
listed_offers origin name (Err fault) = []

-- the offers of a text, if it is there
abbrev pub body_offers : Text → Text → Option Text → Map Offered
body_offers origin name None = []
body_offers origin name (Some body) = listed_offers origin name (shelf_reading body)

-- the offers of a content, in the order of its text
abbrev pub content_offers : Data → Content → Map Offered
content_offers parent c = body_offers (origin_of parent c.name) c.name c.body

-- the offers of all contents, in order of the targets
unfoldable pub all_offers : Data → List Content → Map Offered
all_offers parent contents = flat_map (content_offers parent) contents

-- ---- references that are offered twice

-- the reference of an offer was offered before
abbrev pub is_seen : List Text → Text × Offered → Bool
is_seen seen e = list_any (same_text e.0) seen

-- the first offer of each reference that isn't among those seen
abbrev pub firsts : List Text → Map Offered → Map Offered
firsts seen [] = []
firsts seen (e ∷ es) = if is_seen seen e then firsts seen es else e ∷ firsts (seen ++ e.0 ∷ []) es

-- the other offers
abbrev pub repeats : List Text → Map Offered → Map Offered
repeats seen [] = []
repeats seen (e ∷ es) = if is_seen seen e then e ∷ repeats seen es else repeats (seen ++ e.0 ∷ []) es
