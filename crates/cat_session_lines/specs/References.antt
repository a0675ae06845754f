-- The references that a list of texts names.
use Rattle.std.specs.Prelude.{ℕ, List, None, Some, Result, Ok, Err, codes}
use Rattle.cat_tree.specs.Data.{Data}
use Rattle.cat_tree.specs.declared.read.TreeFault.{TreeFault}
use Rattle.cat_types.specs.Reference.{parsed}
use Rattle.cat_types.specs.declared.fault.RefFault.{RefFault}
use Rattle.cat_collections.specs.Table.{Text}
use Rattle.cat_inputs.specs.Body.{each_from, texts_in}
use Rattle.cat_inputs.specs.Faults.{json_fault}
use Rattle.cat_inputs.specs.Reading.{tree_reading}
use Rattle.cat_inputs.specs.declared.fault.InputFault.{InputFault}
use Rattle.cat_inputs.specs.declared.fault.Place.TheVariants.{EntityRefs}
use Rattle.cat_session_lines.specs.Faults.{input_fault}
use Rattle.cat_session_lines.specs.declared.fault.LineFault.{LineFault}
use Rattle.cat_session_lines.specs.declared.fault.LineFault.TheVariants.{Reference}

-- The reference that was read, or the fault that the text at place i names no entity.
abbrev pub named_at : ℕ → Result Text RefFault → Result Text LineFault
named_at i (Ok r) = Ok r
named_at i (Err fault) = Err (Reference i)

-- the reference that a text names, whose place is i
abbrev pub reference_at : ℕ → Text → Result Text LineFault
reference_at i text = named_at i (parsed text None (codes "default"))

-- the references that the texts name, or the first text that names none
abbrev pub references : List Text → Result (List Text) LineFault
references texts = each_from reference_at 0 texts

-- The references that the texts read name, or the fault of the first that names none, or of a body that has no such texts.
abbrev pub references_by : Result (List Text) InputFault → Result (List Text) LineFault
references_by (Ok texts) = references texts
references_by (Err fault) = Err (input_fault fault)

-- the references of a tree that is a list of texts
abbrev pub references_in : Data → Result (List Text) LineFault
references_in d = references_by (texts_in EntityRefs (Some d))

-- The references of the tree that was read, or the fault of the line where its body has no tree.
abbrev pub references_read : Result Data TreeFault → Result (List Text) LineFault
references_read (Ok d) = references_in d
references_read (Err fault) = Err (input_fault (json_fault fault))

-- the references that a JSON list of texts names, or the first refusal that holds
unfoldable pub references_of : List ℕ → Result (List Text) LineFault
references_of body = references_read (tree_reading body)
