-- The rows that are stored of a state.
use Rattle.std.specs.Prelude.{ℕ, Bool, true, false, ◌&&◌, ◌==◌, List, [], ◌∷◌, ◌++◌, length, map, flat_map, Option, None, Some, option_map, unwrap_or, if◌then◌else◌}
use Rattle.std.specs.declared.cmp.Ordering.{Ordering}
use Rattle.cat_tree.specs.Data.{Data}
use Rattle.cat_tree.specs.Text.{text_of}
use Rattle.cat_collections.specs.Pairs.{pair_cmp}
use Rattle.cat_collections.specs.Table.{Text, find, get, puts, text_cmp}
use Rattle.cat_types.specs.declared.input.Offered.{Offered}
use Rattle.cat_types.specs.declared.issue.Issue.{Issue}
use Rattle.cat_types.specs.declared.work.Output.{Output}
use Rattle.cat_model.specs.Catalogue.{Holders, Rows as Given}
use Rattle.cat_model.specs.declared.types.Orphan.{Orphan}
use Rattle.cat_model.specs.declared.types.ProviderInputs.{ProviderInputs}
use Rattle.cat_model.specs.declared.types.Record.{Record as Recorded}
use Rattle.cat_model.specs.declared.types.Row.{Row}
use Rattle.cat_model.specs.declared.types.State.{State}
use Rattle.cat_model.specs.declared.types.Origin.{Origin}
use Rattle.cat_model.specs.declared.types.Origin.TheVariants.{Provider as OfProvider, Entity}
use Rattle.cat_model.specs.declared.types.OrphanRule.{OrphanRule}
use Rattle.cat_model.specs.declared.types.OrphanRule.TheVariants.{Keep, Delete}
use Rattle.cat_keeper.specs.Store.{RowKey, Rows, row_cmp}
use Rattle.cat_row_format.specs.Formed.{is_any}
use Rattle.cat_row_format.specs.Parsed.{item_row}
use Rattle.cat_row_format.specs.Text.{row_data, row_key, row_table}
use Rattle.cat_row_format.specs.declared.row.OrphanRule.{OrphanRule as StoredRule}
use Rattle.cat_row_format.specs.declared.row.OrphanRule.TheVariants.{Keep as KeepStored, Delete as DeleteStored}
use Rattle.cat_row_format.specs.declared.row.StoredCounter.TheVariants.{Arrival, Number}
use Rattle.cat_row_format.specs.declared.row.StoredOffer.{StoredOffer}
use Rattle.cat_row_format.specs.declared.row.StoredOutput.{StoredOutput}
use Rattle.cat_row_format.specs.declared.row.StoredRow.{StoredRow}
use Rattle.cat_row_format.specs.declared.row.StoredRow.TheVariants.{Counter, Provider, Shelf, Record, RecordOne, Orphan as OrphanRow, Settings, Tree}
use Rattle.cat_stored_rows.specs.declared.version.Version.{Version}
use Rattle.cat_stored_rows.specs.declared.version.Version.TheVariants.{One, Two}

-- ---- rows by their keys

-- typed rows, each under its table and its key
abbrev pub Stored : Type 0
Stored = List (RowKey × StoredRow)

-- the row under its table and its key
abbrev pub keyed : StoredRow → RowKey × StoredRow
keyed row = ((row_table row, row_key row), row)

-- these rows put in, one after the other
abbrev pub put_rows : List StoredRow → Stored → Stored
put_rows rows made = puts row_cmp (map keyed rows) made

-- ---- texts

-- the text of a row
abbrev pub text_in : StoredRow → Text
text_in row = text_of (row_data row)

-- each row with its text
abbrev pub texts_of : Stored → Rows
texts_of rows = map (λ e. (e.0, text_in e.1)) rows

-- ---- which row emitted an offer

-- references are ordered in pairs
abbrev pub pairs_cmp : Text × Text → Text × Text → Ordering
pairs_cmp = pair_cmp text_cmp text_cmp

-- arrival numbers by emitter and reference
abbrev pub Emitted : Type 0
Emitted = List ((Text × Text) × ℕ)

-- a row's arrival number under its emitter and its reference, if an entity emitted it
abbrev pub emitted_by : ℕ → Text → Origin → Emitted
emitted_by arrival reference (OfProvider name) = []
emitted_by arrival reference (Entity emitter) = ((emitter, reference), arrival) ∷ []

-- the same of a row with its arrival number
abbrev pub emitted_as : ℕ × Row → Emitted
emitted_as e = emitted_by e.0 e.1.reference e.1.origin

-- the arrival number of the last row of each emitter and reference
abbrev pub emitted : Given → Emitted
emitted rows = puts pairs_cmp (flat_map emitted_as rows) []

-- ---- the rows of the parts of a state

-- the rule, as rows name it
abbrev pub rule_of : OrphanRule → StoredRule
rule_of Keep = KeepStored
rule_of Delete = DeleteStored

-- the next arrival number and the next number of a record or an orphan
abbrev pub counter_rows : State → List StoredRow
counter_rows m = Counter Arrival m.arrival ∷ Counter Number m.number ∷ []

-- a provider with its last serial number
abbrev pub provider_row : Text × ProviderInputs → StoredRow
provider_row e = Provider e.0 e.1.serial

-- the tree that stands beside an item or an offer: in the first version its own
abbrev pub tree_beside : Version → Data → Option Data
tree_beside One tree = Some tree
tree_beside Two tree = None

-- the row of a tree: in the second version
abbrev pub tree_rows : Version → ℕ → Data → List StoredRow
tree_rows One arrival tree = []
tree_rows Two arrival tree = Tree arrival tree ∷ []

-- an item, if a provider gives it, with the tree beside it
abbrev pub item_with : ℕ → Text → Text → Option Data → Origin → List StoredRow
item_with arrival reference key beside (OfProvider name) = item_row name reference arrival key beside ∷ []
item_with arrival reference key beside (Entity emitter) = []

-- of a row with its arrival number the item, if a provider gives it, and the tree
abbrev pub given_in : Version → ℕ × Row → List StoredRow
given_in version e =
    item_with e.0 e.1.reference e.1.offered.key (tree_beside version e.1.offered.tree) e.1.origin
    ++ tree_rows version e.0 e.1.offered.tree

-- an item in the second version, if a provider gives it
abbrev pub item_rows : ℕ → Text → Text → Origin → List StoredRow
item_rows arrival reference key origin = item_with arrival reference key None origin

-- of a row with its arrival number the item and the tree in the second version
abbrev pub given_rows : ℕ × Row → List StoredRow
given_rows e = given_in Two e

-- a text of the shelf
abbrev pub shelf_row : Text × Text → StoredRow
shelf_row e = Shelf e.0 e.1

-- an offer, by the arrival number of its row
abbrev pub offer_in : Version → Emitted → Text → Text × Offered → StoredOffer
offer_in version arrivals emitter e = record {
  arrival = unwrap_or (find pairs_cmp (emitter, e.0) arrivals) 0;
  key = e.1.key;
  reference = e.0;
  tree = tree_beside version e.1.tree;
}

-- what a record gave last
abbrev pub output_in : Version → Emitted → Text → Output → StoredOutput
output_in version arrivals emitter output = record { entity = output.entity; offers = map (offer_in version arrivals emitter) output.offers }

-- a record of the first version, which has a form of its own where there are offers
abbrev pub record_one : Text → ℕ → List Issue → ℕ → Option StoredOutput → StoredRow
record_one reference holder issues n None = Record reference holder issues n None
record_one reference holder issues n (Some output) =
    if is_any output.offers then RecordOne reference holder issues n output
    else Record reference holder issues n (Some output)

-- a record in the form that a version has for it
abbrev pub record_as : Version → Text → ℕ → List Issue → ℕ → Option StoredOutput → StoredRow
record_as One reference holder issues n output = record_one reference holder issues n output
record_as Two reference holder issues n output = Record reference holder issues n output

-- a record, with the arrival number of the row that holds its reference
abbrev pub record_in : Version → Holders → Emitted → Text × Recorded → StoredRow
record_in version holders arrivals e =
    record_as version e.0 (unwrap_or (get holders e.0) 0) e.1.issues e.1.number (option_map (output_in version arrivals e.0) e.1.output)

-- an offer in the second version
abbrev pub offer_row : Emitted → Text → Text × Offered → StoredOffer
offer_row arrivals emitter e = offer_in Two arrivals emitter e

-- what a record gave last, in the second version
abbrev pub output_row : Emitted → Text → Output → StoredOutput
output_row arrivals emitter output = output_in Two arrivals emitter output

-- a record in the second version
abbrev pub record_row : Holders → Emitted → Text × Recorded → StoredRow
record_row holders arrivals e = record_in Two holders arrivals e

-- an orphan
abbrev pub orphan_row : Text × Orphan → StoredRow
orphan_row e = OrphanRow e.0 e.1.entity e.1.number

-- ---- the rows of a state

-- records are kept where they leave
abbrev pub is_keep : OrphanRule → Bool
is_keep Keep = true
is_keep Delete = false

-- there is nothing that a store tells of: no provider, shelf text, record or orphan, and no number was drawn, under the usual rule
abbrev pub is_blank : OrphanRule → State → Bool
is_blank rule m =
    ((length m.providers == 0 && length m.shelf == 0) && (length m.records == 0 && length m.orphans == 0))
    && ((m.arrival == 1 && m.number == 1) && is_keep rule)

-- a row for each provider, item, shelf text, record and orphan, and in the second version for each tree
abbrev pub kept_in : Version → State → List StoredRow
kept_in version m =
    map provider_row m.providers
    ++ (flat_map (given_in version) m.rows
    ++ (map shelf_row m.shelf
    ++ (map (record_in version m.holders (emitted m.rows)) m.records
    ++ map orphan_row m.orphans)))

-- the counters, the rule, and a row for each provider, item, tree, shelf text, record and orphan
abbrev pub all_rows : OrphanRule → State → List StoredRow
all_rows rule m = counter_rows m ++ (Settings (rule_of rule) ∷ kept_in Two m)

-- the rows of a state under a rule: none of a blank one
abbrev pub rows_of : OrphanRule → State → List StoredRow
rows_of rule m = if is_blank rule m then [] else all_rows rule m

-- the rows of a state under a rule, in order of their tables and keys
unfoldable pub stored : OrphanRule → State → Stored
stored rule m = put_rows (rows_of rule m) []

-- the texts that a store has of a state under a rule
unfoldable pub tables : OrphanRule → State → Rows
tables rule m = texts_of (stored rule m)
