-- The state that the rows of a store stand for.
use Rattle.std.specs.Prelude.{ℕ, ◌^◌, Bool, true, false, ◌&&◌, nat_le, List, [], ◌∷◌, flat_map, if◌then◌else◌, is_some, unwrap_or}
use Rattle.std.specs.declared.option.Option.{Option}
use Rattle.std.specs.declared.option.Option.TheVariants.{None, Some}
use Rattle.std.specs.Option.{option_map}
use Rattle.std.specs.Ordering.{nat_cmp}
use Rattle.cat_tree.specs.Data.{Data}
use Rattle.cat_collections.specs.Table.{Map, Text, find, get, put, puts, text_cmp}
use Rattle.cat_types.specs.declared.input.Offered.{Offered}
use Rattle.cat_types.specs.declared.issue.Issue.{Issue}
use Rattle.cat_types.specs.declared.work.Output.{Output}
use Rattle.cat_model.specs.Catalogue.{Holders, Rows, row_at}
use Rattle.cat_model.specs.declared.types.Orphan.{Orphan}
use Rattle.cat_model.specs.declared.types.OrphanRule.{OrphanRule}
use Rattle.cat_model.specs.declared.types.OrphanRule.TheVariants.{Keep, Delete}
use Rattle.cat_model.specs.declared.types.Origin.{Origin}
use Rattle.cat_model.specs.declared.types.Origin.TheVariants.{Provider as OfProvider, Entity}
use Rattle.cat_model.specs.declared.types.ProviderInputs.{ProviderInputs}
use Rattle.cat_model.specs.declared.types.Record.{Record as Recorded}
use Rattle.cat_model.specs.declared.types.Row.{Row}
use Rattle.cat_model.specs.declared.types.State.{State}
use Rattle.cat_row_format.specs.declared.row.OrphanRule.{OrphanRule as StoredRule}
use Rattle.cat_row_format.specs.declared.row.OrphanRule.TheVariants.{Keep as KeepStored, Delete as DeleteStored}
use Rattle.cat_row_format.specs.declared.row.StoredCounter.{StoredCounter}
use Rattle.cat_row_format.specs.declared.row.StoredCounter.TheVariants.{Arrival, Number}
use Rattle.cat_row_format.specs.declared.row.StoredOffer.{StoredOffer}
use Rattle.cat_row_format.specs.declared.row.StoredOutput.{StoredOutput}
use Rattle.cat_row_format.specs.declared.row.StoredRow.{StoredRow}
use Rattle.cat_row_format.specs.declared.row.StoredRow.TheVariants.{Counter, Provider, Item, Shelf, Record, RecordOne, Orphan as OrphanRow, Settings, Tree, ItemOne}

-- ---- rows, one after the other

-- what the rows make of a value, one after the other
abbrev pub told_by : {X : Type 0} → (StoredRow → X → X) → List StoredRow → X → X
told_by by [] x = x
told_by by (row ∷ rows) x = told_by by rows (by row x)

-- ---- trees, which stand beside items and offers or in rows of their own

-- trees by arrival number
abbrev pub Trees : Type 0
Trees = List (ℕ × Data)

-- the tree of a row of its own
abbrev pub tree_in : StoredRow → Trees
tree_in (Tree arrival tree) = (arrival, tree) ∷ []
tree_in row = []

-- the trees that stand in rows of their own
abbrev pub trees_of : List StoredRow → Trees
trees_of rows = puts nat_cmp (flat_map tree_in rows) []

-- the tree with this arrival number: the one beside, or else the one in a row of its own
abbrev pub tree_for : Trees → ℕ → Option Data → Option Data
tree_for trees arrival None = find nat_cmp arrival trees
tree_for trees arrival (Some tree) = Some tree

-- what is offered, where its tree is there
abbrev pub offered_with : Text → Option Data → Option Offered
offered_with key None = None
offered_with key (Some tree) = Some (record { key = key; tree = tree })

-- what an item or an offer with this arrival number, this key and this tree beside it offers
abbrev pub offered_by : Trees → ℕ → Text → Option Data → Option Offered
offered_by trees arrival key beside = offered_with key (tree_for trees arrival beside)

-- ---- rows by arrival number

-- the row of what is offered
abbrev pub row_with : ℕ → Origin → Text → Option Offered → Rows
row_with arrival origin reference None = []
row_with arrival origin reference (Some x) = (arrival, record { origin = origin; reference = reference; offered = x }) ∷ []

-- the row of an offer
abbrev pub offer_given : Trees → Text → StoredOffer → Rows
offer_given trees emitter offer = row_with offer.arrival (Entity emitter) offer.reference (offered_by trees offer.arrival offer.key offer.tree)

-- the rows of what a record gave last
abbrev pub output_given : Trees → Text → Option StoredOutput → Rows
output_given trees emitter None = []
output_given trees emitter (Some output) = flat_map (offer_given trees emitter) output.offers

-- the rows of an item or of the offers of a record
abbrev pub given_by : Trees → StoredRow → Rows
given_by trees (Item provider reference arrival key) = row_with arrival (OfProvider provider) reference (offered_by trees arrival key None)
given_by trees (ItemOne provider reference arrival key tree) = row_with arrival (OfProvider provider) reference (offered_by trees arrival key (Some tree))
given_by trees (Record reference holder issues n output) = output_given trees reference output
given_by trees (RecordOne reference holder issues n output) = output_given trees reference (Some output)
given_by trees row = []

-- a row is added where none has its arrival number
abbrev pub with_row : ℕ × Row → Rows → Rows
with_row e rows = if is_some (row_at rows e.0) then rows else put nat_cmp e.0 e.1 rows

-- rows are added, one after the other
abbrev pub with_rows : Rows → Rows → Rows
with_rows [] rows = rows
with_rows (e ∷ es) rows = with_rows es (with_row e rows)

-- the rows that items and offers give
abbrev pub rows_of : Trees → List StoredRow → Rows
rows_of trees rows = with_rows (flat_map (given_by trees) rows) []

-- ---- providers

-- items by provider and reference, with one that is offered
abbrev pub with_item : Text → Text → Option Offered → Map (Map Offered) → Map (Map Offered)
with_item provider reference None items = items
with_item provider reference (Some x) items = put text_cmp provider (put text_cmp reference x (unwrap_or (get items provider) [])) items

-- the same with the item of a row, if it has one
abbrev pub item_with : Trees → StoredRow → Map (Map Offered) → Map (Map Offered)
item_with trees (Item provider reference arrival key) items = with_item provider reference (offered_by trees arrival key None) items
item_with trees (ItemOne provider reference arrival key tree) items = with_item provider reference (offered_by trees arrival key (Some tree)) items
item_with trees row items = items

-- a provider, with its items
abbrev pub provider_in : Map (Map Offered) → StoredRow → Map ProviderInputs
provider_in items (Provider name serial) = (name, record { serial = serial; items = unwrap_or (get items name) [] }) ∷ []
provider_in items row = []

abbrev pub providers_of : Trees → List StoredRow → Map ProviderInputs
providers_of trees rows = puts text_cmp (flat_map (provider_in (told_by (item_with trees) rows [])) rows) []

-- ---- the shelf, records and orphans

abbrev pub text_in : StoredRow → Map Text
text_in (Shelf name body) = (name, body) ∷ []
text_in row = []

abbrev pub shelf_of : List StoredRow → Map Text
shelf_of rows = puts text_cmp (flat_map text_in rows) []

abbrev pub holder_in : StoredRow → Holders
holder_in (Record reference holder issues n output) = (reference, holder) ∷ []
holder_in (RecordOne reference holder issues n output) = (reference, holder) ∷ []
holder_in row = []

abbrev pub holders_of : List StoredRow → Holders
holders_of rows = puts text_cmp (flat_map holder_in rows) []

-- what is offered under its reference
abbrev pub offer_with : Text → Option Offered → Map Offered
offer_with reference None = []
offer_with reference (Some x) = (reference, x) ∷ []

abbrev pub offer_in : Trees → StoredOffer → Map Offered
offer_in trees offer = offer_with offer.reference (offered_by trees offer.arrival offer.key offer.tree)

abbrev pub output_in : Trees → StoredOutput → Output
output_in trees output = record { entity = output.entity; offers = flat_map (offer_in trees) output.offers }

-- a record that is due at once, and free
abbrev pub recorded_as : List Issue → ℕ → Option Output → Recorded
recorded_as issues n output = record { number = n; output = output; issues = issues; due = 0; lease = None }

abbrev pub record_in : Trees → StoredRow → Map Recorded
record_in trees (Record reference holder issues n output) = (reference, recorded_as issues n (option_map (output_in trees) output)) ∷ []
record_in trees (RecordOne reference holder issues n output) = (reference, recorded_as issues n (Some (output_in trees output))) ∷ []
record_in trees row = []

abbrev pub records_of : Trees → List StoredRow → Map Recorded
records_of trees rows = puts text_cmp (flat_map (record_in trees) rows) []

abbrev pub orphan_in : StoredRow → Map Orphan
orphan_in (OrphanRow reference entity n) = (reference, record { number = n; entity = entity }) ∷ []
orphan_in row = []

abbrev pub orphans_of : List StoredRow → Map Orphan
orphans_of rows = puts text_cmp (flat_map orphan_in rows) []

-- ---- counters and the rule

-- a number in the bounds of the counters; 1 in place of another one
abbrev pub bounded : ℕ → ℕ
bounded n = if nat_le 1 n && nat_le n (2 ^ 59) then n else 1

-- the next arrival number, where the row has it
abbrev pub arrival_by : StoredRow → ℕ → ℕ
arrival_by (Counter Arrival next) n = bounded next
arrival_by row n = n

-- the next number of a record or an orphan, where the row has it
abbrev pub number_by : StoredRow → ℕ → ℕ
number_by (Counter Number next) n = bounded next
number_by row n = n

abbrev pub rule_named : StoredRule → OrphanRule
rule_named KeepStored = Keep
rule_named DeleteStored = Delete

-- the rule for orphans, where the row has it
abbrev pub rule_by : StoredRow → OrphanRule → OrphanRule
rule_by (Settings rule) r = rule_named rule
rule_by row r = r

-- the rule for orphans; `Keep` where none is stored
abbrev pub rule_of : List StoredRow → OrphanRule
rule_of rows = told_by rule_by rows Keep

-- ---- the whole

-- each record is due at once; there are no leases, no marks and no documents, and tokens and tickets start at 1
unfoldable pub state_of : List StoredRow → State
state_of rows =
    let trees = trees_of rows in
    record {
      providers = providers_of trees rows;
      shelf = shelf_of rows;
      rows = rows_of trees rows;
      holders = holders_of rows;
      records = records_of trees rows;
      orphans = orphans_of rows;
      marks = [];
      documents = [];
      arrival = told_by arrival_by rows 1;
      number = told_by number_by rows 1;
      token = 1;
      ticket = 1;
    }
