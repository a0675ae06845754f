-- How the faults of what is read below become faults of a mutation's body or of a shelf text.
use Rattle.std.specs.Prelude.{ℕ, List, codes}
use Rattle.cat_types.specs.declared.fault.RefFault.{RefFault}
use Rattle.cat_types.specs.declared.fault.RefFault.TheVariants as ref
use Rattle.cat_tree.specs.declared.read.TreeFault.{TreeFault}
use Rattle.cat_tree.specs.declared.read.TreeFault.TheVariants as tree
use Rattle.cat_inputs.specs.declared.fault.InputFault.{InputFault}
use Rattle.cat_inputs.specs.declared.fault.InputFault.TheVariants as input
use Rattle.cat_inputs.specs.declared.fault.Place.{Place}
use Rattle.cat_inputs.specs.declared.fault.Place.TheVariants.{Serial, Entities, Added, Removed, EntityRefs, EntityRef, Fields}
use Rattle.cat_inputs.specs.declared.fault.ShelfFault.{ShelfFault}
use Rattle.cat_inputs.specs.declared.fault.ShelfFault.TheVariants as shelf

-- the name of a field
abbrev pub place_text : Place → List ℕ
place_text Serial = codes "serial"
place_text Entities = codes "entities"
place_text Added = codes "added"
place_text Removed = codes "removed"
place_text EntityRefs = codes "entityRefs"
place_text EntityRef = codes "entityRef"
place_text Fields = codes "fields"

-- the fault of a body that has no tree
abbrev pub json_fault : TreeFault → InputFault
json_fault tree.Syntax = input.Json tree.Syntax
json_fault tree.Fraction = input.Json tree.Fraction
json_fault tree.NoMemory = input.NoMemory

-- the fault of a body whose item at this place has no reference
abbrev pub unnamed : ℕ → RefFault → InputFault
unnamed i ref.Shape = input.NoRef i ref.Shape
unnamed i ref.NoKind = input.NoRef i ref.NoKind
unnamed i ref.BadKind = input.NoRef i ref.BadKind
unnamed i ref.BadNamespace = input.NoRef i ref.BadNamespace
unnamed i ref.BadName = input.NoRef i ref.BadName
unnamed i ref.NoMemory = input.NoMemory

-- the fault of a shelf text that has no tree
abbrev pub text_fault : TreeFault → ShelfFault
text_fault tree.Syntax = shelf.Syntax
text_fault tree.Fraction = shelf.Fraction
text_fault tree.NoMemory = shelf.NoMemory

-- the fault of a shelf text whose descriptor at this place has no reference
abbrev pub unlisted : ℕ → RefFault → ShelfFault
unlisted i ref.Shape = shelf.NoRef i ref.Shape
unlisted i ref.NoKind = shelf.NoRef i ref.NoKind
unlisted i ref.BadKind = shelf.NoRef i ref.BadKind
unlisted i ref.BadNamespace = shelf.NoRef i ref.BadNamespace
unlisted i ref.BadName = shelf.NoRef i ref.BadName
unlisted i ref.NoMemory = shelf.NoMemory
