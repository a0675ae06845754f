-- The messages of issues.
use Rattle.std.specs.Prelude.{ℕ, ◌++◌, ◌∷◌, codes}
use Rattle.std.specs.Fmt.{decimal}
use Rattle.cat_types.specs.Faults.{fault_text}
use Rattle.cat_collections.specs.Table.{Text}
use Rattle.cat_schema.specs.declared.faults.SchemaFault.{SchemaFault}
use Rattle.cat_kinds.specs.declared.answer.KindFault.{KindFault}
use Rattle.cat_target.specs.declared.target.TargetFault.{TargetFault}
use Rattle.cat_target.specs.declared.target.TargetFault.TheVariants as target
use Rattle.cat_inputs.specs.declared.fault.ShelfFault.{ShelfFault}
use Rattle.cat_inputs.specs.declared.fault.ShelfFault.TheVariants as shelf

-- two words, parted by a space
abbrev pub spaced : Text → Text → Text
spaced first second = first ++ 32 ∷ second

-- the rule and the place, as `S5 metadata.name`
abbrev pub schema_text : SchemaFault → Text
schema_text fault = spaced (codes "S" ++ decimal fault.rule) fault.place

-- the fault and the field, as `NoKind spec.dependsOn.0`
abbrev pub kind_text : KindFault → Text
kind_text fault = spaced (fault_text fault.fault) fault.place

-- the fault, with the place of a text without a name, as `BadTarget 0`
abbrev pub target_text : TargetFault → Text
target_text target.TooMany = codes "TooMany"
target_text target.NoType = codes "NoType"
target_text (target.BadTarget place) = spaced (codes "BadTarget") (decimal place)
target_text target.NoMemory = codes "NoMemory"

-- the fault, with the place of the descriptor, as `Deep 0` or `NoRef 0 BadName`
abbrev pub shelf_text : ShelfFault → Text
shelf_text shelf.Syntax = codes "Syntax"
shelf_text shelf.Fraction = codes "Fraction"
shelf_text shelf.Shape = codes "Shape"
shelf_text (shelf.Deep place) = spaced (codes "Deep") (decimal place)
shelf_text (shelf.NoRef place fault) = spaced (spaced (codes "NoRef") (decimal place)) (fault_text fault)
shelf_text shelf.NoMemory = codes "NoMemory"
