-- The references that the fields of an entity name, as they stand in its tree.
use Rattle.std.specs.Prelude.{ℕ, suc, List, [], ◌∷◌, ◌++◌, Bool, false, Option, Some, None, if◌then◌else◌, option_and_then, codes}
use Rattle.std.specs.Option.{option_map_or}
use Rattle.cat_tree.specs.Data.{Data, null, flag, whole, words, list, dict, Items, no_items, item}
use Rattle.cat_tree.specs.Ask.{child_of}
use Rattle.cat_types.specs.Reference.{text_in}
use Rattle.cat_collections.specs.Table.{Text}
use Rattle.cat_schema.specs.Fields.{FieldRow, field_rows, row_of, has_field}
use Rattle.cat_schema.specs.Rules.{kind_of}
use Rattle.cat_schema.specs.declared.kind.Kind.{Kind}
use Rattle.cat_kinds.specs.declared.mention.Mention.{Mention as Lent}

-- a text in a reference field, with its position where the field is a list
pub record Mention : Type 0 where
  pub field : FieldRow
  pub position : Option ℕ
  pub text : Text

-- the mention that one of the code stands for
abbrev pub mention_of : Lent → Mention
mention_of m = record { field = row_of m.field.now; position = m.position; text = m.text.now }

-- entities of this kind, if it is one, have the field
abbrev pub fits : Option Kind → FieldRow → Bool
fits None row = false
fits (Some k) row = has_field k row

-- the mention of a text, and none where there is no text
abbrev pub as_mention : FieldRow → Option ℕ → Option Text → List Mention
as_mention row position None = []
as_mention row position (Some s) = record { field = row; position = position; text = s } ∷ []

-- what one tree mentions, which is nothing where it is no text
abbrev pub mention : FieldRow → Option ℕ → Data → List Mention
mention row position d = as_mention row position (text_in d)

-- what the items mention, whose positions go on from a number
abbrev pub mentions_among : FieldRow → ℕ → Items → List Mention
mentions_among row k no_items = []
mentions_among row k (item d ds) = mention row (Some k) d ++ mentions_among row (suc k) ds

-- what a list mentions, and nothing for any other tree
abbrev pub listed : FieldRow → Data → List Mention
listed row null = []
listed row (flag b) = []
listed row (whole z) = []
listed row (words s) = []
listed row (list ds) = mentions_among row 0 ds
listed row (dict ms) = []

-- what the value of a field mentions
abbrev pub mentions_at : FieldRow → Data → List Mention
mentions_at row d = if row.is_list then listed row d else mention row None d

-- what a field of an entity mentions, whatever the kind of the entity
unfoldable pub mentions_in : FieldRow → Data → List Mention
mentions_in row d = option_map_or (mentions_at row) (option_and_then (child_of row.key) (child_of (codes "spec") d)) []

-- the same, where entities of its kind have the field
unfoldable pub mentions_by : Data → FieldRow → List Mention
mentions_by d row = if fits (kind_of d) row then mentions_in row d else []

-- what each of these fields of an entity mentions, one field after the other
abbrev pub mentions_by_each : Data → List FieldRow → List Mention
mentions_by_each d [] = []
mentions_by_each d (row ∷ rows) = mentions_by d row ++ mentions_by_each d rows

-- what an entity mentions, in the order of the fields and of their lists
unfoldable pub mentions : Data → List Mention
mentions d = mentions_by_each d field_rows
