-- The bodies of requests that name entities.
use Rattle.std.specs.Prelude.{ℕ, List, [], map, None, Some, Option, Result, Ok, Err, codes}
use Rattle.cat_tree.specs.Data.{Data}
use Rattle.cat_tree.specs.declared.read.TreeFault.{TreeFault}
use Rattle.cat_types.specs.Reference.{parsed, text_at}
use Rattle.cat_types.specs.declared.fault.RefFault.{RefFault}
use Rattle.cat_search.specs.Filter.{pieces}
use Rattle.cat_collections.specs.Table.{Text}
use Rattle.cat_inputs.specs.Body.{each_from, field, texts_in}
use Rattle.cat_inputs.specs.Faults.{json_fault}
use Rattle.cat_inputs.specs.Reading.{tree_reading}
use Rattle.cat_inputs.specs.declared.fault.InputFault.{InputFault}
use Rattle.cat_inputs.specs.declared.fault.InputFault.TheVariants.{Shape}
use Rattle.cat_inputs.specs.declared.fault.Place.TheVariants.{EntityRefs, EntityRef, Fields}
use Rattle.cat_query.specs.declared.ask.Ask.{Ask}
use Rattle.cat_query.specs.declared.ask.Ask.TheVariants.{Many}
use Rattle.cat_requests.specs.Refusals.{input_refusal}
use Rattle.cat_requests.specs.declared.refusal.Refusal.{Refusal}
use Rattle.cat_requests.specs.declared.refusal.Refusal.TheVariants.{Reference}

-- the next step on what is read, or why it isn't
abbrev pub with_read : {A B : Type 0} → Result A InputFault → (A → Result B Refusal) → Result B Refusal
with_read (Ok x) next = next x
with_read (Err fault) next = Err (input_refusal fault)

-- the next step on the tree of a body
abbrev pub with_tree : {B : Type 0} → Result Data TreeFault → (Data → Result B Refusal) → Result B Refusal
with_tree (Ok d) next = next d
with_tree (Err fault) next = Err (input_refusal (json_fault fault))

-- ---- one reference

-- The reference that was read, or the refusal that the text at place i names no entity.
abbrev pub named_at : ℕ → Result Text RefFault → Result Text Refusal
named_at i (Ok r) = Ok r
named_at i (Err fault) = Err (Reference i)

-- the reference that a text names, whose place is i
abbrev pub reference_at : ℕ → Text → Result Text Refusal
reference_at i text = named_at i (parsed text None (codes "default"))

-- The reference that the text under `entityRef` names, or the refusal of one that names none, or of a body without such a text.
abbrev pub reference_by : Option Text → Result Text Refusal
reference_by None = Err (input_refusal (Shape EntityRef))
reference_by (Some text) = reference_at 0 text

-- the reference under `entityRef` of a body
abbrev pub reference_of : List ℕ → Result Text Refusal
reference_of body = with_tree (tree_reading body) (λ d. reference_by (text_at (field EntityRef d)))

-- ---- many references

-- the references that the texts name, or the first text that names none
abbrev pub references : List Text → Result (List Text) Refusal
references texts = each_from reference_at 0 texts

-- the paths of texts, their keys parted by points
abbrev pub paths : List Text → List (List Text)
paths texts = map (pieces 46) texts

-- the texts of `fields`, which may be left out
abbrev pub fields_by : Option Data → Result (List Text) InputFault
fields_by None = Ok []
fields_by (Some d) = texts_in Fields (Some d)

-- The question for the entities of these references, with the paths of the fields to show, or the refusal of the references.
abbrev pub many_by : List (List Text) → Result (List Text) Refusal → Result Ask Refusal
many_by fields (Ok references) = Ok (Many references fields)
many_by fields (Err refusal) = Err refusal

-- the texts of both fields are read before the references
abbrev pub many_with : List Text → Data → Result Ask Refusal
many_with texts d = with_read (fields_by (field Fields d)) (λ fields. many_by (paths fields) (references texts))

-- what the tree of a body asks
abbrev pub many_in : Data → Result Ask Refusal
many_in d = with_read (texts_in EntityRefs (field EntityRefs d)) (λ texts. many_with texts d)

-- what a body asks
abbrev pub many_of : List ℕ → Result Ask Refusal
many_of body = with_tree (tree_reading body) many_in
