-- The mutation that a body is, or why it is none.
use Rattle.std.specs.Prelude.{ℕ, suc, List, [], ◌∷◌, ◌++◌, Bool, Option, None, Some, Result, Ok, Err, nat_lt, length, map, if◌then◌else◌, codes, bytes_eq}
use Rattle.std.specs.List.{list_any}
use Rattle.cat_tree.specs.Ask.{depth_of}
use Rattle.cat_tree.specs.Data.{Data}
use Rattle.cat_tree.specs.declared.read.TreeFault.{TreeFault}
use Rattle.cat_types.specs.Reference.{described, parsed}
use Rattle.cat_types.specs.declared.fault.RefFault.{RefFault}
use Rattle.cat_collections.specs.Table.{Text}
use Rattle.cat_types.specs.declared.input.Item.{Item}
use Rattle.cat_types.specs.declared.input.Mutation.{Mutation}
use Rattle.cat_types.specs.declared.input.Mutation.TheVariants as mutation
use Rattle.cat_inputs.specs.declared.fault.InputFault.{InputFault}
use Rattle.cat_inputs.specs.declared.fault.InputFault.TheVariants.{TooMany, Deep, Duplicate}
use Rattle.cat_inputs.specs.declared.form.Form.{Form}
use Rattle.cat_inputs.specs.declared.form.Form.TheVariants.{Full, Delta}
use Rattle.cat_inputs.specs.Body.{Entry, Body, and_then, each_from, body_in}
use Rattle.cat_inputs.specs.Faults.{json_fault, unnamed}
use Rattle.cat_inputs.specs.Reading.{tree_reading}

-- over 100 levels of lists and maps
abbrev pub is_deep : Data → Bool
is_deep d = nat_lt 100 (depth_of d)

-- the place of the first tree that is too deep, counted from i on
abbrev pub first_deep : ℕ → List Data → Option ℕ
first_deep i [] = None
first_deep i (d ∷ ds) = if is_deep d then Some i else first_deep (suc i) ds

-- the item that a descriptor gives under the reference that it names
abbrev pub item_named : ℕ → Entry → Result Text RefFault → Result Item InputFault
item_named i e (Ok r) = Ok (record { reference = r; key = e.key; tree = e.entity })
item_named i e (Err fault) = Err (unnamed i fault)

-- the item that a descriptor gives, whose place is i
abbrev pub item_at : ℕ → Entry → Result Item InputFault
item_at i e = item_named i e (described e.entity)

-- the reference at place i, or that place with the fault of its reading
abbrev pub named_at : ℕ → Result Text RefFault → Result Text InputFault
named_at i (Ok r) = Ok r
named_at i (Err fault) = Err (unnamed i fault)

-- the reference that a removed text names, whose place is i
abbrev pub ref_at : ℕ → Text → Result Text InputFault
ref_at i text = named_at i (parsed text None (codes "default"))

-- the place of the first text that stands before it, among those seen and these, counted from i on
abbrev pub repeated : List Text → ℕ → List Text → Option ℕ
repeated seen i [] = None
repeated seen i (t ∷ ts) = if list_any (bytes_eq t) seen then Some i else repeated (t ∷ seen) (suc i) ts

-- ---- the refusals of a body whose fields have their forms, in order

-- what comes next, unless a place is at fault
abbrev pub unless : {A : Type 0} → Option ℕ → (ℕ → InputFault) → Result A InputFault → Result A InputFault
unless None fault next = next
unless (Some i) fault next = Err (fault i)

-- the mutation of this form
abbrev pub mutation_with : Form → ℕ → List Item → List Text → Mutation
mutation_with Full serial items refs = mutation.Full serial items
mutation_with Delta serial items refs = mutation.Delta serial items refs

-- the references of the items and then of what is removed
abbrev pub all_refs : List Item → List Text → List Text
all_refs items refs = map (λ x. x.reference) items ++ refs

-- the mutation, unless a reference stands twice
abbrev pub distinct : Form → ℕ → List Item → List Text → Result Mutation InputFault
distinct form serial items refs =
    unless (repeated [] 0 (all_refs items refs)) Duplicate (Ok (mutation_with form serial items refs))

-- the same, unless an item or a removed text names no entity
abbrev pub named : Form → Body → Result Mutation InputFault
named form b =
    and_then (each_from item_at 0 b.entries) (λ items. and_then (each_from ref_at (length b.entries) b.removed) (λ refs. distinct form b.serial items refs))

-- the same, unless there are over 100,000 items or a descriptor is over 100 levels deep
abbrev pub checked : Form → Body → Result Mutation InputFault
checked form b =
    if nat_lt 100000 (length b.entries) then Err TooMany
    else unless (first_deep 0 (map (λ e. e.entity) b.entries)) Deep (named form b)

-- the mutation that a tree is
abbrev pub mutation_from : Form → Data → Result Mutation InputFault
mutation_from form d = and_then (body_in form d) (checked form)

-- the mutation of a tree that was read
abbrev pub mutation_read : Form → Result Data TreeFault → Result Mutation InputFault
mutation_read form (Ok d) = mutation_from form d
mutation_read form (Err fault) = Err (json_fault fault)

-- the mutation that the bytes are, or the first refusal that holds
unfoldable pub mutation_of : Form → List ℕ → Result Mutation InputFault
mutation_of form bytes = mutation_read form (tree_reading bytes)
