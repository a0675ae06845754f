-- The forms of offers and of processed entities, and tests of them.
use Rattle.std.specs.Prelude.{◌≡◌, ◌≤◌, [], Bool, true, false, ◌&&◌, ◌==◌, Option, Result, Ok, Err, is_some, option_and_then, length, bytes_eq, codes}
use Rattle.cat_tree.specs.Ask.{child_of}
use Rattle.cat_tree.specs.Data.{Data}
use Rattle.cat_types.specs.Reference.{described, is_map}
use Rattle.cat_types.specs.declared.fault.RefFault.{RefFault}
use Rattle.cat_schema.specs.Forms.{may_be_there}
use Rattle.cat_schema.specs.Rules.{breaches}
use Rattle.cat_kinds.specs.Kinds.{kind_faults}
use Rattle.cat_collections.specs.Table.{Text}
use Rattle.cat_types.specs.declared.input.Offered.{Offered}
use Rattle.cat_inputs.specs.Body.{is_key}
use Rattle.cat_process.specs.Offers.{annotations_of}
use Rattle.cat_layers.specs.Trees.{IsWithin, is_within}

-- ---- offers

-- an offer may stand under a reference: its tree is a descriptor of the reference, at most 100 levels deep, and its
-- location key has 1 to 2,048 bytes
pub record IsOffer (x : Offered) (r : Text) : Type 0 where
  pub named : described x.tree ≡ Ok r
  pub within : IsWithin 100 x.tree
  pub filled : 1 ≤ length x.key
  pub short : length x.key ≤ 2048

-- ---- processed entities

-- the namespace that the metadata of an entity state, where they state one
abbrev pub stated_namespace : Data → Option Data
stated_namespace t = option_and_then (child_of (codes "namespace")) (child_of (codes "metadata") t)

-- the annotations are absent or a map
abbrev pub has_annotations_map : Data → Bool
has_annotations_map t = may_be_there is_map (annotations_of t)

-- a processed entity of a reference: a descriptor of it, at most 100 levels deep, that states its namespace, whose
-- annotations are absent or a map, and in which no rule of the descriptor format and no reference field is broken
pub record IsProcessed (t : Data) (r : Text) : Type 0 where
  pub named : described t ≡ Ok r
  pub within : IsWithin 100 t
  pub namespace : is_some (stated_namespace t) ≡ true
  pub annotations : has_annotations_map t ≡ true
  pub schema : breaches t ≡ []
  pub references : kind_faults t ≡ []

-- ---- the tests

-- whether a descriptor names this reference
abbrev pub is_this : Text → Result Text RefFault → Bool
is_this r (Ok q) = bytes_eq q r
is_this r (Err fault) = false

-- whether an offer may stand under a reference
unfoldable pub is_item : Offered → Text → Bool
is_item x r = is_this r (described x.tree) && (is_within 100 x.tree && is_key x.key)

-- whether nothing in an entity is broken
abbrev pub is_faultless : Data → Bool
is_faultless t = length (breaches t) == 0 && length (kind_faults t) == 0

-- whether a tree is a processed entity of a reference
unfoldable pub is_entity : Data → Text → Bool
is_entity t r =
    is_this r (described t) && (is_within 100 t && ((is_some (stated_namespace t) && has_annotations_map t) && is_faultless t))
