use Rattle.std.proofs.Common.{◌≡◌, ◌++◌, drop, map}
use Rattle.std.specs.List.{flat_map}
use Rattle.cat_tree.specs.View.{data_of}
use Rattle.cat_schema.specs.Fields.{row_of}
use Rattle.cat_schema.specs.Rules.{list_reference}
use Rattle.cat_schema.proofs.rules.check_list_references.Given as goal

-- what was found, with what is left, is the whole
abbrev pub invariant-loop-field : goal.invariant-loop-field
invariant-loop-field l =
    l.faults ++ flat_map (list_reference l.kind (data_of l.spec)) (map row_of (drop l.field-index l.field-items)) ≡ l.initial.faults ++ flat_map (list_reference l.kind (data_of l.spec)) (map row_of l.field-items)
