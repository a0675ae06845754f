-- The places of rows that an event reaches, and the row that stands at a place.
use Rattle.std.specs.Prelude.{ℕ, Bool, ◌&&◌, List, [], ◌∷◌, ◌++◌, map, codes, if◌then◌else◌}
use Rattle.std.specs.declared.option.Option.{Option}
use Rattle.std.specs.declared.option.Option.TheVariants.{None, Some}
use Rattle.std.specs.List.{flat_map}
use Rattle.std.specs.Option.{option_map, unwrap_or}
use Rattle.cat_stitch.specs.Uid.{last_digits}
use Rattle.cat_collections.specs.Rows.{without}
use Rattle.cat_collections.specs.Table.{Map, Text, get, put, puts, text_cmp}
use Rattle.cat_types.specs.declared.input.Offered.{Offered}
use Rattle.cat_types.specs.declared.work.Output.{Output}
use Rattle.cat_model.specs.Catalogue.{Holders}
use Rattle.cat_model.specs.Rows.{Rows, given, is_from, is_named, named, row_at}
use Rattle.cat_model.specs.declared.types.Origin.{Origin}
use Rattle.cat_model.specs.declared.types.Origin.TheVariants.{Provider as OfProvider, Entity}
use Rattle.cat_model.specs.declared.types.OrphanRule.{OrphanRule}
use Rattle.cat_model.specs.declared.types.Record.{Record as Recorded}
use Rattle.cat_model.specs.declared.types.Row.{Row}
use Rattle.cat_model.specs.declared.types.State.{State}
use Rattle.cat_keeper.specs.Store.{RowKey, row_cmp}
use Rattle.cat_keeper.specs.declared.table.Table.TheVariants as table
use Rattle.cat_row_format.specs.Names.{counter_text}
use Rattle.cat_row_format.specs.Text.{item_key}
use Rattle.cat_row_format.specs.declared.row.StoredCounter.{StoredCounter}
use Rattle.cat_row_format.specs.declared.row.StoredCounter.TheVariants.{Arrival, Number}
use Rattle.cat_row_format.specs.declared.row.StoredOffer.{StoredOffer}
use Rattle.cat_row_format.specs.declared.row.StoredOutput.{StoredOutput}
use Rattle.cat_row_format.specs.declared.row.StoredRow.{StoredRow}
use Rattle.cat_row_format.specs.declared.row.StoredRow.TheVariants as stored
use Rattle.cat_stored_rows.specs.Stored.{Stored, is_blank, orphan_row, provider_row, rule_of, shelf_row}
use Rattle.cat_row_updates.specs.declared.place.Place.{Place}
use Rattle.cat_row_updates.specs.declared.place.Place.TheVariants.{Counter, Settings, Provider, Shelf, Record, Orphan, Tree, Item}
use Rattle.cat_row_updates.specs.declared.reached.Reached.{Reached}

-- ---- keys

-- the table and the key of the row of a place
abbrev pub key_of : Place → RowKey
key_of (Counter counter) = (table.Counters, counter_text counter)
key_of Settings = (table.Settings, codes "store")
key_of (Provider name) = (table.Providers, name)
key_of (Shelf name) = (table.Shelf, name)
key_of (Record reference) = (table.Records, reference)
key_of (Orphan reference) = (table.Orphans, reference)
key_of (Tree arrival) = (table.Trees, last_digits 16 arrival)
key_of (Item provider reference arrival) = (table.Items, item_key provider reference)

-- places by their keys
abbrev pub Placed : Type 0
Placed = List (RowKey × Place)

-- a place under its key
abbrev pub keyed_place : Place → RowKey × Place
keyed_place place = (key_of place, place)

-- these places put in, one after the other
abbrev pub put_places : List Place → Placed → Placed
put_places places made = puts row_cmp (map keyed_place places) made

-- ---- what is reached

-- whether there is a row, of this origin and this reference
abbrev pub is_of : Origin → Text → Option Row → Bool
is_of origin reference row = is_from origin row && is_named reference row

-- the place of what gave a row: its item; or the record of an entity, unless the other rows have that offer under the same arrival number
abbrev pub giver_places : Option Row → ℕ → Text → Origin → List Place
giver_places other arrival reference (OfProvider name) = Item name reference arrival ∷ []
giver_places other arrival reference (Entity e) = if is_of (Entity e) reference other then [] else Record e ∷ []

-- the places of a row, if there is one: its tree, and what gave it
abbrev pub row_places : Option Row → ℕ → Option Row → List Place
row_places other arrival None = []
row_places other arrival (Some row) = Tree arrival ∷ giver_places other arrival row.reference row.origin

-- the places of the row with an arrival number
abbrev pub places_at : Rows → Rows → ℕ → List Place
places_at rows others arrival = row_places (row_at others arrival) arrival (row_at rows arrival)

-- the places of the rows of a reference
abbrev pub named_places : Rows → Rows → Text → List Place
named_places rows others reference = flat_map (places_at rows others) (named rows reference)

-- the places of a reference, before and after
abbrev pub reference_places : State → State → Text → List Place
reference_places m n reference = Record reference ∷ Orphan reference ∷ (named_places m.rows n.rows reference ++ named_places n.rows m.rows reference)

-- the place of a provider, if there is one
abbrev pub provider_places : Option Text → List Place
provider_places None = []
provider_places (Some name) = Provider name ∷ []

-- the place of a text of the shelf, if there is one
abbrev pub name_places : Option Text → List Place
name_places None = []
name_places (Some name) = Shelf name ∷ []

-- the places that are looked at after every event
abbrev pub fixed_places : List Place
fixed_places = Counter Arrival ∷ Counter Number ∷ Settings ∷ []

-- all places that are reached
abbrev pub places : Reached → State → State → List Place
places x m n = fixed_places ++ (provider_places x.provider ++ (name_places x.name ++ flat_map (reference_places m n) x.references.items))

-- ---- what stands at a place

-- a row, unless the state is blank
abbrev pub unless_blank : OrphanRule → State → StoredRow → Option StoredRow
unless_blank rule m row = if is_blank rule m then None else Some row

-- the next number of a counter
abbrev pub next_at : State → StoredCounter → ℕ
next_at m Arrival = m.arrival
next_at m Number = m.number

-- the row of a counter
abbrev pub counter_at : OrphanRule → State → StoredCounter → Option StoredRow
counter_at rule m counter = unless_blank rule m (stored.Counter counter (next_at m counter))

-- the row of the rule for orphans
abbrev pub settings_at : OrphanRule → State → Option StoredRow
settings_at rule m = unless_blank rule m (stored.Settings (rule_of rule))

-- the row of a provider
abbrev pub provider_at : State → Text → Option StoredRow
provider_at m name = option_map (λ x. provider_row (name, x)) (get m.providers name)

-- the row of a text of the shelf
abbrev pub text_at : State → Text → Option StoredRow
text_at m name = option_map (λ x. shelf_row (name, x)) (get m.shelf name)

-- the row of an orphan
abbrev pub orphan_at : State → Text → Option StoredRow
orphan_at m reference = option_map (λ x. orphan_row (reference, x)) (get m.orphans reference)

-- the row of a tree
abbrev pub tree_at : State → ℕ → Option StoredRow
tree_at m arrival = option_map (λ row. stored.Tree arrival row.offered.tree) (row_at m.rows arrival)

-- ---- a record

-- the reference of a row, with its arrival number
abbrev pub noted_as : ℕ → Option Row → Map ℕ
noted_as arrival None = []
noted_as arrival (Some row) = (row.reference, arrival) ∷ []

abbrev pub noted_at : Rows → ℕ → Map ℕ
noted_at rows arrival = noted_as arrival (row_at rows arrival)

-- the arrival numbers of the rows of an entity, by their references
abbrev pub arrivals_of : Rows → Text → Map ℕ
arrivals_of rows entity = puts text_cmp (flat_map (noted_at rows) (given rows (Entity entity))) []

-- an offer, by the arrival number of its row
abbrev pub offer_with : (Text → Option ℕ) → Text × Offered → StoredOffer
offer_with arrival e = record { arrival = unwrap_or (arrival e.0) 0; key = e.1.key; reference = e.0; tree = None }

-- what a record gave last
abbrev pub output_with : (Text → Option ℕ) → Output → StoredOutput
output_with arrival output = record { entity = output.entity; offers = map (offer_with arrival) output.offers }

-- a record, with the arrival number of the row that holds its reference
abbrev pub record_with : (Text → Option ℕ) → Holders → Text × Recorded → StoredRow
record_with arrival holders e = stored.Record e.0 (unwrap_or (get holders e.0) 0) e.1.issues e.1.number (option_map (output_with arrival) e.1.output)

-- the row of a record
abbrev pub record_at : State → Text → Option StoredRow
record_at m reference = option_map (λ x. record_with (get (arrivals_of m.rows reference)) m.holders (reference, x)) (get m.records reference)

-- ---- an item

-- a row as the item of a provider under a reference, if it is that
abbrev pub item_of : Text → Text → ℕ → Row → Option StoredRow
item_of provider reference arrival row =
    if is_of (OfProvider provider) reference (Some row) then Some (stored.Item provider reference arrival row.offered.key) else None

abbrev pub item_as : Text → Text → ℕ → Option Row → Option StoredRow
item_as provider reference arrival None = None
item_as provider reference arrival (Some row) = item_of provider reference arrival row

-- what was found, or else what is found further on
abbrev pub or_else : Option StoredRow → Option StoredRow → Option StoredRow
or_else None further = further
or_else (Some row) further = Some row

-- the first of the rows with these arrival numbers that is the item
abbrev pub item_among : Rows → Text → Text → List ℕ → Option StoredRow
item_among rows provider reference [] = None
item_among rows provider reference (a ∷ arrivals) = or_else (item_as provider reference a (row_at rows a)) (item_among rows provider reference arrivals)

-- the row of an item, which is looked for at an arrival number first
abbrev pub item_at : State → Text → Text → ℕ → Option StoredRow
item_at m provider reference arrival = item_among m.rows provider reference (arrival ∷ named m.rows reference)

-- ---- rows that are made anew

-- the row of a place in a state, if it has one
abbrev pub row_of : OrphanRule → State → Place → Option StoredRow
row_of rule m (Counter counter) = counter_at rule m counter
row_of rule m Settings = settings_at rule m
row_of rule m (Provider name) = provider_at m name
row_of rule m (Shelf name) = text_at m name
row_of rule m (Record reference) = record_at m reference
row_of rule m (Orphan reference) = orphan_at m reference
row_of rule m (Tree arrival) = tree_at m arrival
row_of rule m (Item provider reference arrival) = item_at m provider reference arrival

-- rows with this row under a key, or with none
abbrev pub set_row : RowKey → Option StoredRow → Stored → Stored
set_row key None rows = without row_cmp key rows
set_row key (Some row) rows = put row_cmp key row rows

-- rows with those of these places in a state, one after the other
abbrev pub renewed : OrphanRule → State → Placed → Stored → Stored
renewed rule m [] rows = rows
renewed rule m (e ∷ placed) rows = renewed rule m placed (set_row e.0 (row_of rule m e.1) rows)
