-- The changes that bytes are, or why they are none.
use Rattle.std.specs.Prelude.{ℕ, ◌+◌, List, [], Option, None, Some, Result, Ok, Err, codes}
use Rattle.std.specs.Option.{ok_or}
use Rattle.cat_tree.specs.Ask.{child_of}
use Rattle.cat_tree.specs.Data.{Data, null, flag, whole, words, list, dict, Items, no_items, item}
use Rattle.cat_tree.specs.declared.read.TreeFault.{TreeFault}
use Rattle.cat_tree.specs.declared.read.TreeFault.TheVariants as tree
use Rattle.cat_types.specs.Reference.{parsed, text_at}
use Rattle.cat_types.specs.declared.fault.RefFault.{RefFault}
use Rattle.cat_collections.specs.Table.{Text}
use Rattle.cat_inputs.specs.Body.{and_then, onto}
use Rattle.cat_inputs.specs.Reading.{tree_reading}
use Rattle.cat_feed.specs.declared.change.Change.{Change}
use Rattle.cat_feed.specs.declared.change.Changes.{Changes}
use Rattle.cat_feed.specs.declared.change.Since.{Since}
use Rattle.cat_feed.specs.Place.{since_of}
use Rattle.cat_feed.specs.declared.text_fault.ChangesFault.{ChangesFault}
use Rattle.cat_feed.specs.declared.text_fault.ChangesFault.TheVariants as fault
use Rattle.cat_feed.specs.declared.text_fault.Field.{Field}
use Rattle.cat_feed.specs.declared.text_fault.Field.TheVariants as field

-- the name of a field
abbrev pub field_text : Field → List ℕ
field_text field.Changes = codes "changes"
field_text field.From = codes "from"
field_text field.To = codes "to"

-- the fault of bytes that have no tree
abbrev pub json_fault : TreeFault → ChangesFault
json_fault tree.Syntax = fault.Json tree.Syntax
json_fault tree.Fraction = fault.Json tree.Fraction
json_fault tree.NoMemory = fault.NoMemory

-- ---- changes

-- The reference that was read, or the fault that the field `changes` is of another form.
abbrev pub named : Result Text RefFault → Result Text ChangesFault
named (Ok r) = Ok r
named (Err e) = Err (fault.Shape field.Changes)

-- the reference that a text names
abbrev pub reference_in : Option Text → Result Text ChangesFault
reference_in None = Err (fault.Shape field.Changes)
reference_in (Some text) = named (parsed text None (codes "default"))

-- the change that a member of the list is: an object with `entityRef` and, where a document is set, `set`
abbrev pub change_in : ℕ → Data → Result Change ChangesFault
change_in n d = and_then (reference_in (text_at (child_of (codes "entityRef") d))) (λ r. Ok (record { number = n; reference = r; set = child_of (codes "set") d }))

-- the changes of a list, whose numbers follow n
abbrev pub changes_from : ℕ → Items → Result (List Change) ChangesFault
changes_from n no_items = Ok []
changes_from n (item d ds) = onto (change_in (n + 1) d) (changes_from (n + 1) ds)

-- the changes of a field that is a list of them, numbered from 1
abbrev pub list_by : Option Data → Result (List Change) ChangesFault
list_by None = Err (fault.Shape field.Changes)
list_by (Some null) = Err (fault.Shape field.Changes)
list_by (Some (flag b)) = Err (fault.Shape field.Changes)
list_by (Some (whole z)) = Err (fault.Shape field.Changes)
list_by (Some (words s)) = Err (fault.Shape field.Changes)
list_by (Some (list ds)) = changes_from 0 ds
list_by (Some (dict ms)) = Err (fault.Shape field.Changes)

-- The changes of the field `changes` of a tree, numbered from 1, or the fault of that field.
abbrev pub list_in : Data → Result (List Change) ChangesFault
list_in d = list_by (child_of (codes "changes") d)

-- ---- places

-- The place that a text is, where there is a text and it is one.
abbrev pub place_in : Option Text → Option Since
place_in None = None
place_in (Some text) = since_of text

-- the place that a field is
abbrev pub place_at : Option Data → Option Since
place_at d = place_in (text_at d)

-- The place that was read, as one that is given, or the fault that the field `from` is of another form.
abbrev pub given : Option Since → Result (Option Since) ChangesFault
given None = Err (fault.Shape field.From)
given (Some since) = Ok (Some since)

-- a place, or null for none
abbrev pub from_by : Option Data → Result (Option Since) ChangesFault
from_by None = Err (fault.Shape field.From)
from_by (Some null) = Ok None
from_by (Some (flag b)) = Err (fault.Shape field.From)
from_by (Some (whole z)) = Err (fault.Shape field.From)
from_by (Some (words s)) = given (since_of s)
from_by (Some (list ds)) = Err (fault.Shape field.From)
from_by (Some (dict ms)) = Err (fault.Shape field.From)

-- The place of the field `from` of a tree, none where it is null, or the fault of that field, which may not be missing.
abbrev pub from_in : Data → Result (Option Since) ChangesFault
from_in d = from_by (child_of (codes "from") d)

-- The place of the field `to` of a tree, or the fault of that field.
abbrev pub to_in : Data → Result Since ChangesFault
to_in d = ok_or (place_at (child_of (codes "to") d)) (fault.Shape field.To)

-- ---- the whole

-- the changes that a tree is, or the first of its fields that is missing or of another form
abbrev pub changes_in : Data → Result Changes ChangesFault
changes_in d =
    and_then (list_in d) (λ cs. and_then (from_in d) (λ f. and_then (to_in d) (λ t. Ok (record { from = f; to = t; list = cs }))))

-- The changes that the tree read is, or why it is none, or the fault of bytes that have no tree.
abbrev pub changes_read : Result Data TreeFault → Result Changes ChangesFault
changes_read (Ok d) = changes_in d
changes_read (Err e) = Err (json_fault e)

-- the changes that the bytes are, or the first fault that holds
unfoldable pub changes_of : List ℕ → Result Changes ChangesFault
changes_of bytes = changes_read (tree_reading bytes)
