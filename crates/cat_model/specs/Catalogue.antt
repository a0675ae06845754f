-- The abstract catalogue.
use Rattle.std.specs.Prelude.{◌≡◌, ℕ, zero, suc, ◌+◌, Bool, true, false, cond, not, ◌&&◌, List, [], ◌∷◌, ◌++◌, length, is_some, is_none}
use Rattle.std.specs.declared.option.Option.{Option}
use Rattle.std.specs.declared.option.Option.TheVariants.{None, Some}
use Rattle.std.specs.Option.{option_and_then, option_map}
use Rattle.std.specs.Ordering.{nat_cmp}
use Rattle.std.specs.List.{filter, filter_map, flat_map, list_any}
use Rattle.cat_tree.specs.Data.{Data}
pub use Rattle.cat_types.specs.declared.issue.Issue.{Issue}
pub use Rattle.cat_types.specs.declared.relation.Relation.{Relation}
pub use Rattle.cat_types.specs.declared.input.Offered.{Offered}
pub use Rattle.cat_types.specs.declared.work.Output.{Output}
pub use Rattle.cat_types.specs.declared.work.Outcome.{Outcome}
pub use Rattle.cat_types.specs.declared.parts.Parts.{Parts}
pub use Rattle.cat_model.specs.declared.types.ProviderInputs.{ProviderInputs}
pub use Rattle.cat_types.specs.declared.work.Content.{Content}
pub use Rattle.cat_types.specs.declared.work.Work.{Work}
use Rattle.cat_types.specs.Relation.{relation_cmp}
use Rattle.cat_target.specs.Targets.{read_names}
pub use Rattle.cat_model.specs.declared.types.Origin.{Origin}
pub use Rattle.cat_model.specs.declared.types.Row.{Row}
pub use Rattle.cat_model.specs.Rows.{Rows, row_at}
pub use Rattle.cat_model.specs.declared.types.Lease.{Lease}
pub use Rattle.cat_model.specs.declared.types.Record.{Record}
pub use Rattle.cat_model.specs.declared.types.Orphan.{Orphan}
pub use Rattle.cat_model.specs.declared.types.State.{State}
pub use Rattle.cat_model.specs.declared.types.Leaving.{Leaving}
use Rattle.cat_model.specs.declared.types.Leaving.TheVariants.{Deleted, Orphaned}
use Rattle.cat_model.specs.declared.types.Origin.TheVariants.{Provider, Entity}
use Rattle.cat_types.specs.declared.work.Outcome.TheVariants.{Good}
use Rattle.cat_collections.specs.Table.{Text, text_cmp, same_text, Map, get, keys, put, tabulate, over, first, place}

-- ---- what the lower layers give

-- a reference, by its full text
abbrev pub Ref : Type 0
Ref = Text

-- a JSON tree, as its data
abbrev pub Tree : Type 0
Tree = Data

-- what processing has to say of a record
abbrev pub Issues : Type 0
Issues = List Issue

-- what the shelf has for the targets of a tree, in order
abbrev pub Contents : Type 0
Contents = List Content

-- the texts on the shelf, by name
abbrev pub Shelf : Type 0
Shelf = Map Text

-- offers by reference, in the order in which they are offered
abbrev pub Offers : Type 0
Offers = Map Offered

-- a tree together with its contents
abbrev pub work_with : (Tree → Shelf → Contents) → Shelf → Tree → Work
work_with contents shelf tree = record { tree = tree; contents = contents tree shelf }

-- the lower layers: the contents of a tree, the result of a work, the relations of an entity, the document of parts, and the sizes and tests that they need
pub record Rules : Type 0 where
  pub contents : Tree → Shelf → Contents
  pub result : Work → Outcome
  pub relations : Tree → Ref → List Relation
  pub doc : Parts → Tree
  -- the sum of the stored input bytes
  pub bytes : Map ProviderInputs → Shelf → ℕ
  -- the references that the shelf texts give
  pub shelf_refs : Shelf → List Ref
  -- the tests of equality
  pub same_work : Work → Work → Bool
  pub same_parts : Parts → Parts → Bool
  -- the laws that soundness and freshness need
  pub same_work-is : (x y : Work) → same_work x y ≡ true → x ≡ y
  pub same_parts-is : (x y : Parts) → same_parts x y ≡ true → x ≡ y
  -- and those that the bound on a settle needs too
  pub same_work-self : (x : Work) → same_work x x ≡ true
  pub same_parts-self : (x : Parts) → same_parts x x ≡ true
  pub offers_on_shelf : (shelf : Shelf) (tree : Tree) (output : Output) (issues : Issues) → result (work_with contents shelf tree) ≡ Good output issues
      → (r : Ref) (x : Offered) → get output.offers r ≡ Some x → list_any (same_text r) (shelf_refs shelf) ≡ true
  -- and that a change of the shelf needs, which asks the readers of a name alone
  pub reads : (tree : Tree) (m n : Shelf) → ((t : Text) → list_any (same_text t) (read_names tree) ≡ true → get m t ≡ get n t) → contents tree m ≡ contents tree n

-- ---- the state

-- the arrival of the row that holds each reference
abbrev pub Holders : Type 0
Holders = Map ℕ

-- ---- holding

-- whether a row holds r
abbrev pub held : Holders → Ref → Bool
held holders r = is_some (get holders r)

-- the row that holds r
abbrev pub holding : Rows → Holders → Ref → Option Row
holding rows holders r = option_and_then (row_at rows) (get holders r)

-- whether an origin is a provider or a held reference
abbrev pub may_offer : Holders → Origin → Bool
may_offer holders (Provider p) = true
may_offer holders (Entity e) = held holders e

-- whether an origin is a provider, or an entity of which this holds
abbrev pub climbs_origin : (Ref → Bool) → Origin → Bool
climbs_origin up (Provider p) = true
climbs_origin up (Entity e) = up e

-- whether there is a row whose origin is a provider, or an entity of which this holds
abbrev pub climbs_row : (Ref → Bool) → Option Row → Bool
climbs_row up None = false
climbs_row up (Some row) = climbs_origin up row.origin

-- whether the chain of origins from r reaches a provider within n steps
abbrev pub climbs : Rows → Holders → ℕ → Ref → Bool
climbs rows holders zero r = false
climbs rows holders (suc n) r = climbs_row (climbs rows holders n) (holding rows holders r)

-- whether the chain of origins from r reaches a provider
abbrev pub rooted : Rows → Holders → Ref → Bool
rooted rows holders r = climbs rows holders (length holders) r

-- whether a row may claim its reference now
abbrev pub claims : Holders → Option Row → Bool
claims holders None = false
claims holders (Some row) = not (held holders row.reference) && may_offer holders row.origin

-- the row with this arrival holds its reference
abbrev pub hold : ℕ → Option Row → Holders → Holders
hold a None holders = holders
hold a (Some row) holders = put text_cmp row.reference a holders

-- as long as one of these rows may claim its reference, the first of them does; n is how many there are at most
abbrev pub claim : ℕ → Rows → List ℕ → Holders → Holders
claim zero rows arrivals holders = holders
claim (suc n) rows arrivals holders =
    elim (first (λ a. claims holders (row_at rows a)) arrivals) [
      | None ↦ holders
      | Some a ↦ claim n rows arrivals (hold a (row_at rows a) holders)
    ]

-- the arrivals of the rows that hold
abbrev pub holding_arrivals : Holders → List ℕ
holding_arrivals holders = filter_map (λ r. get holders r) (keys holders)

-- first the rows that hold claim, so that those that are there and rooted stay; then all rows do
abbrev pub rehold : Rows → Holders → Holders
rehold rows holders = claim (length rows) rows (keys rows) (claim (length holders) rows (holding_arrivals holders) [])

-- a row, where its origin is a provider or a held reference
abbrev pub with_origin_held : Holders → Row → Option Row
with_origin_held holders row = cond (may_offer holders row.origin) (Some row) None

-- the rows whose origin is a provider or a held reference
abbrev pub standing : Rows → Holders → Rows
standing rows holders = over nat_cmp rows (λ a row. with_origin_held holders row)

-- ---- orders and parts

-- the work of a tree over a shelf
abbrev pub work_of : Rules → Shelf → Tree → Work
work_of rules shelf tree = work_with rules.contents shelf tree

-- the input of r, with its contents
abbrev pub work : Rules → State → Ref → Option Work
work rules m r = option_map (λ row. work_of rules m.shelf row.offered.tree) (holding m.rows m.holders r)

-- the kept output of a reference's record
abbrev pub output_of : Map Record → Ref → Option Output
output_of records r = option_and_then (λ x. x.output) (get records r)

-- the relations of the entity of an output
abbrev pub emits : Rules → Ref → Option Output → List Relation
emits rules r None = []
emits rules r (Some output) = rules.relations output.entity r

-- what the outputs of these references emit
abbrev pub emitted : Rules → List Ref → (Ref → Option Output) → List Relation
emitted rules refs outputs = flat_map (λ e. emits rules e (outputs e)) refs

-- the sorted distinct relations with source r
abbrev pub from_source : Ref → List Relation → List Relation
from_source r relations = keys (tabulate relation_cmp (filter (λ x. same_text r x.source) relations) (λ x. Some (tt {0})))

-- what all records emit
abbrev pub records_emit : Rules → State → List Relation
records_emit rules m = emitted rules (keys m.holders) (output_of m.records)

-- the parts of an orphan: its relations are those of what all records emit and of what it emits itself
abbrev pub parts_of_orphan : Rules → List Relation → Ref → Option Orphan → Option Parts
parts_of_orphan rules relations r None = None
parts_of_orphan rules relations r (Some x) =
    Some (record {
      entity = x.entity;
      number = x.number;
      orphan = true;
      relations = from_source r (relations ++ rules.relations x.entity r);
      issues = [];
    })

-- the parts of a record: none without a kept output
abbrev pub parts_of_record : List Relation → Ref → Record → Option Output → Option Parts
parts_of_record relations r x None = None
parts_of_record relations r x (Some output) =
    Some (record {
      entity = output.entity;
      number = x.number;
      orphan = false;
      relations = from_source r relations;
      issues = x.issues;
    })

-- the parts of what is known under a reference: those of its record, or else of its orphan
abbrev pub parts_from : Rules → List Relation → Ref → Option Orphan → Option Record → Option Parts
parts_from rules relations r orphan None = parts_of_orphan rules relations r orphan
parts_from rules relations r orphan (Some x) = parts_of_record relations r x x.output

-- the parts of a reference's document
abbrev pub parts : Rules → State → Ref → Option Parts
parts rules m r = parts_from rules (records_emit rules m) r (get m.orphans r) (get m.records r)

-- ---- the frame: what follows from a change of m into n

-- whether both are there and pass the test, or neither is there
abbrev pub same_option : {A : Type 0} → (A → A → Bool) → Option A → Option A → Bool
same_option same None None = true
same_option same None (Some y) = false
same_option same (Some x) None = false
same_option same (Some x) (Some y) = same x y

-- an orphan's number, or where there was none the number drawn
abbrev pub number_of : ℕ → Option Orphan → ℕ
number_of drawn None = drawn
number_of drawn (Some x) = x.number

-- a record that was never processed
abbrev pub new_record : ℕ → Record
new_record number = record { number = number; output = None; issues = []; due = 0; lease = None }

-- a record that is due at once, and free
abbrev pub due_now : Record → Record
due_now x = record x { due = 0; lease = None }

-- a reference's record: kept where it has the same work, due at once where not; new where there was none
abbrev pub record_after : ℕ → Option Orphan → Bool → Option Record → Record
record_after drawn orphan same None = new_record (number_of drawn orphan)
record_after drawn orphan same (Some x) = cond same x (due_now x)

-- an orphan with the entity of an output
abbrev pub orphan_from_output : ℕ → Option Output → Option Orphan
orphan_from_output number None = None
orphan_from_output number (Some output) = Some (record { number = number; entity = output.entity })

-- what becomes of a record that leaves: nothing, or an orphan if it has a kept output
abbrev pub orphan_from_record : Leaving → Record → Option Orphan
orphan_from_record Deleted x = None
orphan_from_record Orphaned x = orphan_from_output x.number x.output

-- the orphan under a reference: none where it is held, what becomes of a record that leaves, or the one before
abbrev pub orphan_after : Leaving → Bool → Option Record → Option Orphan → Option Orphan
orphan_after how true record' orphan = None
orphan_after how false None orphan = orphan
orphan_after how false (Some x) orphan = orphan_from_record how x

-- the references of n that get a new number
abbrev pub fresh_refs : State → Holders → List Ref
fresh_refs n holders = filter (λ r. is_none (get n.records r) && is_none (get n.orphans r)) (keys holders)

-- rows and holders by the rules of holding; the other fields are those of n
abbrev pub reheld : State → State
reheld n =
    let holders = rehold n.rows n.holders in
    record n { rows = standing n.rows holders; holders = holders }

-- with h for n reheld: each held reference has a record, what left is deleted or an orphan, and new records get numbers in order of reference
abbrev pub rerecorded : Rules → Leaving → State → State → State → State
rerecorded rules how m n h =
    record h {
      records = tabulate text_cmp (keys h.holders) (λ r. Some (record_after (n.number + place text_cmp r (fresh_refs n h.holders)) (get n.orphans r) (same_option rules.same_work (work rules m r) (work rules h r)) (get n.records r)));
      orphans = tabulate text_cmp (keys n.orphans ++ keys n.records) (λ r. orphan_after how (held h.holders r) (get n.records r) (get n.orphans r));
      number = n.number + length (fresh_refs n h.holders);
    }

-- the references that have a record or are orphans, in order
abbrev pub known_refs : State → List Ref
known_refs m = keys (tabulate text_cmp (keys m.records ++ keys m.orphans) (λ r. Some (tt {0})))

-- the references of n whose parts aren't those of m
abbrev pub changed_refs : Rules → State → State → List Ref
changed_refs rules m n = filter (λ r. is_some (parts rules n r) && not (same_option rules.same_parts (parts rules m r) (parts rules n r))) (known_refs n)

-- a reference's mark: none without parts, the one before where they are the same, else the ticket drawn
abbrev pub mark_after : ℕ → Option Parts → Bool → Option ℕ → Option ℕ
mark_after drawn None same mark = None
mark_after drawn (Some p) same mark = cond same mark (Some drawn)

-- a reference's document: the one before, where it has parts
abbrev pub document_after : Option Parts → Tree → Option Tree
document_after None document = None
document_after (Some p) document = Some document

-- references with tickets from this one on
abbrev pub tickets : ℕ → List Ref → Map ℕ
tickets t [] = []
tickets t (r ∷ rs) = (r, t) ∷ tickets (t + 1) rs

-- each reference without parts loses mark and document, and each whose parts changed gets a mark with a new ticket, in order of reference
abbrev pub remarked : Rules → State → State → State
remarked rules m n =
    record n {
      marks = tabulate text_cmp (known_refs n) (λ r. mark_after (n.ticket + place text_cmp r (changed_refs rules m n)) (parts rules n r) (same_option rules.same_parts (parts rules m r) (parts rules n r)) (get n.marks r));
      documents = over text_cmp n.documents (λ r document. document_after (parts rules n r) document);
      ticket = n.ticket + length (changed_refs rules m n);
    }

-- what follows from an event: m is the state before it, and n has the event's own change
abbrev pub frame : Rules → Leaving → State → State → State
frame rules how m n = remarked rules m (rerecorded rules how m n (reheld n))
