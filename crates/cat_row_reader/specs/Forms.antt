-- The forms of what a store has, as they are tested before it opens.
use Rattle.std.specs.Prelude.{ℕ, ◌^◌, Bool, true, false, not, ◌&&◌, ◌||◌, ◌==◌, nat_le, nat_lt, List, [], ◌∷◌, length, bytes_eq, codes, is_some, Result, Ok, Err}
use Rattle.std.specs.declared.option.Option.{Option}
use Rattle.std.specs.declared.option.Option.TheVariants.{None, Some}
use Rattle.std.specs.List.{list_all, list_any}
use Rattle.std.specs.Option.{option_and_then}
use Rattle.cat_tree.specs.Ask.{child_of, depth_of}
use Rattle.cat_tree.specs.Data.{Data}
use Rattle.cat_types.specs.Reference.{described}
use Rattle.cat_types.specs.declared.fault.RefFault.{RefFault}
use Rattle.cat_schema.specs.Rules.{breaches}
use Rattle.cat_kinds.specs.Kinds.{kind_faults}
use Rattle.cat_collections.specs.Table.{Text, keys, same_text}
use Rattle.cat_types.specs.declared.work.Output.{Output}
use Rattle.cat_model.specs.Catalogue.{Ref}
use Rattle.cat_model.specs.declared.types.Orphan.{Orphan}
use Rattle.cat_model.specs.declared.types.ProviderInputs.{ProviderInputs}
use Rattle.cat_model.specs.declared.types.Record.{Record}
use Rattle.cat_model.specs.declared.types.Row.{Row}
use Rattle.cat_model.specs.declared.types.State.{State}

-- ---- single trees

-- whether this reference was named
abbrev pub is_this : Ref → Result Text RefFault → Bool
is_this r (Ok q) = bytes_eq q r
is_this r (Err fault) = false

-- whether a tree is at most 100 levels deep, and of this reference
abbrev pub may_be_given : Data → Ref → Bool
may_be_given t r = nat_le (depth_of t) 100 && is_this r (described t)

-- whether the metadata of a tree state a namespace
abbrev pub has_namespace : Data → Bool
has_namespace t = is_some (option_and_then (child_of (codes "namespace")) (child_of (codes "metadata") t))

-- whether a tree states its namespace, is of this reference, and breaks no rule and no reference field
abbrev pub is_entity : Data → Ref → Bool
is_entity t r = has_namespace t && is_this r (described t) && length (breaches t) == 0 && length (kind_faults t) == 0

-- ---- parts of a state

-- whether there are no items, or a serial of 1 to 2 ^ 53 - 1
abbrev pub is_numbered : ProviderInputs → Bool
is_numbered inputs = length inputs.items == 0 || nat_le 1 inputs.serial && nat_lt inputs.serial (2 ^ 53)

-- the same of what a provider gave
abbrev pub is_source : Text × ProviderInputs → Bool
is_source e = is_numbered e.1

-- whether an arrival number is at least 1, and what is offered may stand under its reference
abbrev pub is_given_row : ℕ × Row → Bool
is_given_row e = nat_le 1 e.0 && may_be_given e.1.offered.tree e.1.reference

-- whether these differ
abbrev pub differ : List Ref → Bool
differ [] = true
differ (r ∷ rs) = not (list_any (same_text r) rs) && differ rs

-- whether a kept output has an entity of its reference, and offers no reference twice
abbrev pub is_output : Ref → Option Output → Bool
is_output r None = true
is_output r (Some output) = is_entity output.entity r && differ (keys output.offers)

abbrev pub is_kept : Ref × Record → Bool
is_kept e = is_output e.0 e.1.output

abbrev pub is_left : Ref × Orphan → Bool
is_left e = is_entity e.1.entity e.0

-- whether all that a state keeps has its form
unfoldable pub has_forms : State → Bool
has_forms m = list_all is_source m.providers && list_all is_given_row m.rows && list_all is_kept m.records && list_all is_left m.orphans
