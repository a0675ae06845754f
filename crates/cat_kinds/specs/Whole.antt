-- Whether each reference that stands in the fields of an entity is read.
use Rattle.std.specs.Prelude.{◌≡◌, ℕ, suc, Bool, true, Option, Some, None, option_and_then, length, codes}
use Rattle.std.specs.List.{AllByRecursion}
use Rattle.cat_tree.specs.Data.{Data, null, flag, whole, words, list, dict, Items, no_items, item}
use Rattle.cat_tree.specs.Ask.{child_of}
use Rattle.cat_schema.specs.Fields.{FieldRow, field_rows}
use Rattle.cat_schema.specs.Rules.{kind_of}
use Rattle.cat_kinds.specs.Mentions.{fits, mentions_in}

-- how many items there are
abbrev pub item_count : Items → ℕ
item_count no_items = 0
item_count (item d ds) = suc (item_count ds)

-- how many references a value stands for: one, or one for each item of a list
abbrev pub reference_count : Data → ℕ
reference_count null = 1
reference_count (flag b) = 1
reference_count (whole z) = 1
reference_count (words s) = 1
reference_count (list ds) = item_count ds
reference_count (dict ms) = 1

-- how many references a field stands for, and none where it is absent
abbrev pub field_count : Option Data → ℕ
field_count None = 0
field_count (Some d) = reference_count d

-- the field of an entity
abbrev pub field_of : FieldRow → Data → Option Data
field_of row d = option_and_then (child_of row.key) (child_of (codes "spec") d)

-- where entities of its kind have the field, it mentions as many references as it stands for
abbrev pub IsReadWhole : Data → FieldRow → Type 0
IsReadWhole d row = fits (kind_of d) row ≡ true → length (mentions_in row d) ≡ field_count (field_of row d)

-- no reference field and no item of one is passed over
abbrev pub ReadsEachReference : Data → Type 0
ReadsEachReference d = AllByRecursion (IsReadWhole d) field_rows
