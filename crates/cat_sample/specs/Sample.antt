-- A catalogue that is made from a seed: ten Groups, and Components that they own.
use Rattle.std.specs.Prelude.{ℕ, zero, suc, ◌+◌, ◌*◌, ◌/◌, ◌%◌, ◌==◌, if◌then◌else◌, List, [], ◌∷◌, ◌++◌, None, Result, Ok, Err, codes}
use Rattle.std.specs.Fmt.{decimal}
use Rattle.cat_tree.specs.Data.{Data, words, list, dict, no_items, item, members_of}
use Rattle.cat_tree.specs.Edit.{with_key}
use Rattle.cat_types.specs.Reference.{described}
use Rattle.cat_types.specs.declared.fault.RefFault.{RefFault}
use Rattle.cat_collections.specs.Table.{Text}
use Rattle.cat_types.specs.declared.input.Item.{Item}
use Rattle.cat_types.specs.declared.input.Mutation.{Mutation}
use Rattle.cat_types.specs.declared.input.Mutation.TheVariants.{Full}
use Rattle.cat_model.specs.Catalogue.{Rules}
use Rattle.cat_model.specs.Given.{given}
use Rattle.cat_model.specs.Settle.{try_settle}
use Rattle.cat_model.specs.Step.{start, step}
use Rattle.cat_model.specs.Step.Event.{Mutate}
use Rattle.cat_model.specs.declared.types.Progress.{Progress}
use Rattle.cat_model.specs.declared.types.Settings.{Settings}
use Rattle.cat_model.specs.declared.types.State.{State}

-- ---- the generator

-- the seed after a draw
abbrev pub next_seed : ℕ → ℕ
next_seed x = (x * 1103515245 + 12345) % 2147483648

-- what a draw gives, from the seed after it
abbrev pub drawn : ℕ → ℕ
drawn x = x / 65536

-- ---- descriptors

-- a name of a letter and a number
abbrev pub numbered : Text → ℕ → Text
numbered letters n = letters ++ decimal n

-- a descriptor of a kind, a name and a spec
abbrev pub descriptor : Text → Text → Data → Data
descriptor kind name spec = dict (members_of (
    (codes "apiVersion", words (codes "backstage.io/v1alpha1"))
    ∷ (codes "kind", words kind)
    ∷ (codes "metadata", dict (members_of ((codes "name", words name) ∷ [])))
    ∷ (codes "spec", spec)
    ∷ []))

-- a Group without children
abbrev pub group_tree : ℕ → Data
group_tree j = descriptor (codes "Group") (numbered (codes "g") j) (dict (members_of ((codes "children", list no_items) ∷ (codes "type", words (codes "team")) ∷ [])))

-- the list of one text
abbrev pub one_text : Text → Data
one_text text = list (item (words text) no_items)

-- what a reference to a Component begins with
abbrev pub component_words : Text
component_words = codes "component:c"

-- each Component but the first depends on one before it
abbrev pub dependency : ℕ → ℕ → List (Text × Data)
dependency k d = if k == 0 then [] else (codes "dependsOn", one_text (numbered component_words (d % k))) ∷ []

-- what is said of every Component is added: how far it is, its owner and its type
abbrev pub with_owner : Text → Data → Data
with_owner owner said =
    with_key (codes "type") (words (codes "service"))
    (with_key (codes "owner") (words owner) (with_key (codes "lifecycle") (words (codes "production")) said))

-- the Component of a number, by what was drawn for it
abbrev pub component_tree : ℕ → ℕ → Data
component_tree k d =
    descriptor (codes "Component") (numbered (codes "c") k)
    (with_owner (numbered (codes "g") (d % 10)) (dict (members_of (dependency k d))))

-- ---- the mutation

-- the item of a descriptor under the reference that it names
abbrev pub named_item : Data → Result Text RefFault → List Item
named_item tree (Ok reference) = record { reference = reference; key = None; tree = tree } ∷ []
named_item tree (Err fault) = []

-- the descriptor as an item of a mutation
abbrev pub item_of : Data → List Item
item_of tree = named_item tree (described tree)

-- so many Groups from a number on
abbrev pub groups : ℕ → ℕ → List Item
groups j zero = []
groups j (suc n) = item_of (group_tree j) ++ groups (j + 1) n

-- so many Components from a number on, where the seed is this before the draw of the first
abbrev pub components : ℕ → ℕ → ℕ → List Item
components x k zero = []
components x k (suc n) = item_of (component_tree k (drawn (next_seed x))) ++ components (next_seed x) (k + 1) n

-- ten Groups, and so many Components
abbrev pub sample_items : ℕ → ℕ → List Item
sample_items seed count = groups 0 10 ++ components seed 0 count

-- the provider gives them with its first serial
abbrev pub sample_mutation : ℕ → ℕ → Mutation
sample_mutation seed count = Full 1 (sample_items seed count)

-- the catalogue once the provider `sample` gave them
abbrev pub sample_state : Rules → Settings → ℕ → ℕ → State
sample_state rules s seed count = step rules s (Mutate (codes "sample") (given (codes "sample") (sample_mutation seed count))) start

-- its settle at the moment 0
unfoldable pub sample_settled : Rules → Settings → ℕ → ℕ → Progress
sample_settled rules s seed count = try_settle rules s 0 None (sample_state rules s seed count)
