-- The descriptors that a shelf text lists, or why it lists none.
use Rattle.std.specs.Prelude.{ℕ, List, [], ◌∷◌, Option, None, Some, Result, Ok, Err, if◌then◌else◌}
use Rattle.cat_tree.specs.Data.{Data, null, flag, whole, words, list, dict, Items, no_items, item}
use Rattle.cat_tree.specs.declared.read.TreeFault.{TreeFault}
use Rattle.cat_types.specs.Reference.{described, is_map}
use Rattle.cat_types.specs.declared.fault.RefFault.{RefFault}
use Rattle.cat_collections.specs.Table.{Text}
use Rattle.cat_inputs.specs.declared.fault.ShelfFault.{ShelfFault}
use Rattle.cat_inputs.specs.declared.fault.ShelfFault.TheVariants.{Shape, Deep}
use Rattle.cat_inputs.specs.declared.shelf.Listed.{Listed}
use Rattle.cat_inputs.specs.Body.{and_then, onto, each_from}
use Rattle.cat_inputs.specs.Faults.{text_fault, unlisted}
use Rattle.cat_inputs.specs.Inputs.{first_deep}
use Rattle.cat_inputs.specs.Reading.{text_tree}

-- the members of a list of objects
abbrev pub objects_from : Items → Result (List Data) ShelfFault
objects_from no_items = Ok []
objects_from (item d ds) = onto (if is_map d then Ok d else Err Shape) (objects_from ds)

-- the descriptors of a shelf text: an object, or the objects of a list; those of block YAML are a list
abbrev pub descriptors : Data → Result (List Data) ShelfFault
descriptors null = Err Shape
descriptors (flag b) = Err Shape
descriptors (whole z) = Err Shape
descriptors (words s) = Err Shape
descriptors (list ds) = objects_from ds
descriptors (dict ms) = Ok (dict ms ∷ [])

-- a descriptor under the reference that was read of it
abbrev pub listed_as : ℕ → Data → Result Text RefFault → Result Listed ShelfFault
listed_as i d (Ok r) = Ok (record { reference = r; tree = d })
listed_as i d (Err fault) = Err (unlisted i fault)

-- a descriptor, whose place is i, under the reference that it names
abbrev pub listed_at : ℕ → Data → Result Listed ShelfFault
listed_at i d = listed_as i d (described d)

-- what comes next, unless a descriptor is too deep
abbrev pub unless_deep : Option ℕ → Result (List Listed) ShelfFault → Result (List Listed) ShelfFault
unless_deep None next = next
unless_deep (Some i) next = Err (Deep i)

-- the same, unless a descriptor is over 100 levels deep
abbrev pub shallow : List Data → Result (List Listed) ShelfFault
shallow ds = unless_deep (first_deep 0 ds) (each_from listed_at 0 ds)

-- what a tree lists
abbrev pub shelf_from : Data → Result (List Listed) ShelfFault
shelf_from d = and_then (descriptors d) shallow

-- the descriptors of a tree that was read
abbrev pub shelf_read : Result Data TreeFault → Result (List Listed) ShelfFault
shelf_read (Ok d) = shelf_from d
shelf_read (Err fault) = Err (text_fault fault)

-- what the bytes list, in JSON or in block YAML, or the first refusal that holds
unfoldable pub shelf_reading : List ℕ → Result (List Listed) ShelfFault
shelf_reading bytes = shelf_read (text_tree bytes)
