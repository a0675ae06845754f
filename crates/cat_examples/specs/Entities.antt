-- The parts of the first example: a component and what becomes of it.
use Rattle.std.specs.Prelude.{◌^◌, List, [], ◌∷◌, ◌++◌, map, codes, true, false}
use Rattle.std.specs.declared.option.Option.TheVariants.{None, Some}
use Rattle.cat_tree.specs.Data.{Data, words, list, dict, items_of, members_of}
use Rattle.cat_collections.specs.Table.{Text, Map}
use Rattle.cat_types.specs.declared.input.Offered.{Offered}
use Rattle.cat_types.specs.declared.relation.Relation.{Relation}
use Rattle.cat_types.specs.declared.relation.RelKind.TheVariants.{OwnedBy, OwnerOf}
use Rattle.cat_types.specs.declared.parts.Parts.{Parts}
use Rattle.cat_model.specs.declared.types.Given.{Given}
use Rattle.cat_model.specs.declared.types.Origin.{Origin}
use Rattle.cat_model.specs.declared.types.Origin.TheVariants.{Provider}
use Rattle.cat_model.specs.declared.types.Record.{Record}
use Rattle.cat_model.specs.declared.types.Row.{Row}
use Rattle.cat_model.specs.declared.types.State.{State}

-- a map of these texts under their keys
abbrev pub texts : List (Text × Text) → Data
texts entries = dict (members_of (map (λ e. (e.0, words e.1)) entries))

-- the name and the default namespace of the component
abbrev pub full_name : List (Text × Text)
full_name = (codes "name", codes "Web") ∷ (codes "namespace", codes "default") ∷ []

-- what the component says of itself
abbrev pub component_spec : Data
component_spec = texts ((codes "lifecycle", codes "production") ∷ (codes "owner", codes "Team-A") ∷ (codes "type", codes "service") ∷ [])

-- the fields of a component with these metadata, before its spec
abbrev pub component_head : List (Text × Text) → List (Text × Data)
component_head metadata =
    (codes "apiVersion", words (codes "backstage.io/v1alpha1"))
    ∷ (codes "kind", words (codes "Component"))
    ∷ (codes "metadata", texts metadata)
    ∷ []

-- a component with these metadata, whose owner is Team-A
abbrev pub component_with : List (Text × Text) → Data
component_with metadata = dict (members_of (component_head metadata ++ (codes "spec", component_spec) ∷ []))

-- the component as it is written
abbrev pub component : Data
component = component_with ((codes "name", codes "Web") ∷ [])

-- the component with the default namespace
abbrev pub filled_component : Data
filled_component = component_with full_name

-- the component's document, with the unique id of the number 1 and its owner
abbrev pub component_document : Data
component_document = dict (members_of (
    component_head (full_name ++ (codes "uid", codes "00000000-0000-8000-8000-000000000001") ∷ [])
    ++ (codes "relations", list (items_of (texts ((codes "targetRef", codes "group:default/team-a") ∷ (codes "type", codes "ownedBy") ∷ []) ∷ [])))
    ∷ (codes "spec", component_spec)
    ∷ []))

-- the reference of the component
abbrev pub web : Text
web = codes "component:default/web"

-- the reference of its owner
abbrev pub team : Text
team = codes "group:default/team-a"

-- the component is owned by its owner
abbrev pub owned : Relation
owned = record { source = web; kind = OwnedBy; target = team }

-- the owner is owner of the component
abbrev pub owning : Relation
owning = record { source = team; kind = OwnerOf; target = web }

-- the parts of the component's document
abbrev pub component_parts : Parts
component_parts = record { entity = filled_component; number = 1; orphan = false; relations = owned ∷ []; issues = [] }

-- what the provider git offers: the component, under the key of the provider
abbrev pub offers : Map Offered
offers = (web, record { key = codes "provider:git"; tree = component }) ∷ []

-- a mutation that gives the component alone
abbrev pub component_given : Given
component_given = record { serial = 1; full = true; items = offers; removed = [] }

-- the catalogue after that mutation of git: one row, which holds, and one record, which is due
abbrev pub before_settle : State
before_settle = record {
  providers = (codes "git", record { serial = 1; items = offers }) ∷ [];
  shelf = [];
  rows = (1, record { origin = Provider (codes "git"); reference = web; offered = record { key = codes "provider:git"; tree = component } }) ∷ [];
  holders = (web, 1) ∷ [];
  records = (web, record { number = 1; output = None; issues = []; due = 0; lease = None }) ∷ [];
  orphans = [];
  marks = [];
  documents = [];
  arrival = 2;
  number = 2;
  token = 1;
  ticket = 1;
}

-- the record after a settle at the moment 0: it has an output, and is due again after two minutes
abbrev pub settled_record : Record
settled_record = record { number = 1; output = Some (record { entity = filled_component; offers = [] }); issues = []; due = 120000; lease = None }

-- the catalogue after that settle: the document is there, and one token and one ticket were drawn
abbrev pub after_settle : State
after_settle = record before_settle { records = (web, settled_record) ∷ []; documents = (web, component_document) ∷ []; token = 2; ticket = 2 }

-- the catalogue before the settle, if all tokens below 2 ^ 59 had been drawn
abbrev pub at_spent_tokens : State
at_spent_tokens = record before_settle { token = 2 ^ 59 }

-- an origin offers a tree for a reference
abbrev pub row : Origin → Text → Row
row origin reference = record { origin = origin; reference = reference; offered = record { key = reference; tree = component } }
