-- The rules that a row of a store keeps to.
use Rattle.std.specs.Prelude.{ℕ, zero, suc, ◌+◌, ◌^◌, Bool, true, false, not, ◌&&◌, ◌==◌, min, nat_le, nat_lt, List, length, map, bytes_eq, if◌then◌else◌, is_none, is_some}
use Rattle.std.specs.declared.option.Option.{Option}
use Rattle.std.specs.declared.option.Option.TheVariants.{None, Some}
use Rattle.std.specs.List.{list_all, sum_by}
use Rattle.cat_tree.specs.Data.{Data}
use Rattle.cat_tree.specs.Text.{text_of}
use Rattle.cat_collections.specs.Table.{Text, text_cmp}
use Rattle.cat_model.specs.Catalogue.{Ref}
use Rattle.cat_row_reader.specs.Forms.{is_entity, may_be_given}
use Rattle.cat_row_format.specs.declared.row.StoredCounter.{StoredCounter}
use Rattle.cat_row_format.specs.declared.row.StoredCounter.TheVariants.{Arrival, Number}
use Rattle.cat_row_format.specs.declared.row.StoredOffer.{StoredOffer}
use Rattle.cat_row_format.specs.declared.row.StoredOutput.{StoredOutput}
use Rattle.cat_row_format.specs.declared.row.StoredRow.{StoredRow}
use Rattle.cat_row_format.specs.declared.row.StoredRow.TheVariants.{Counter, Provider, Item, Shelf, Record, RecordOne, Orphan, Settings, Tree, ItemOne}
use Rattle.cat_row_faults.specs.Told.{Answers, is_once}
use Rattle.cat_row_faults.specs.declared.climb.Above.{Above}
use Rattle.cat_row_faults.specs.declared.climb.Above.TheVariants.{Top, Row, Nothing}
use Rattle.cat_row_faults.specs.declared.told.Given.{Given}
use Rattle.cat_row_faults.specs.declared.told.Giver.{Giver}
use Rattle.cat_row_faults.specs.declared.told.Giver.TheVariants.{Provider as OfProvider, Record as OfRecord}

-- ---- counters and numbers

-- a next number is in its bounds
abbrev pub is_counter : ℕ → Bool
is_counter next = nat_le 1 next && nat_le next (2 ^ 59)

-- whether this is a next number
abbrev pub is_next : ℕ → Option ℕ → Bool
is_next n None = false
is_next n (Some next) = next == n

-- a store that has no row beside its counters isn't that of an empty catalogue, which has no rows
abbrev pub is_begun : Answers → Bool
is_begun a = not (a.rows == 2 && (is_next 1 a.arrival && is_next 1 a.number))

abbrev pub is_right_counter : Answers → StoredCounter → ℕ → Bool
is_right_counter a Arrival next = is_counter next && is_begun a
is_right_counter a Number next = is_counter next

-- whether a number is below the next one, where that is there
abbrev pub is_below : ℕ → Option ℕ → Bool
is_below n None = true
is_below n (Some next) = nat_lt n next

-- an arrival number, and the number of a record or an orphan, is at least 1, below the next one, and stands once
abbrev pub has_arrival : Answers → ℕ → Bool
has_arrival a n = nat_le 1 n && is_below n a.arrival && a.arrives_once n

abbrev pub has_number : Answers → ℕ → Bool
has_number a n = nat_le 1 n && is_below n a.number && a.drawn_once n

-- ---- items and offers

-- the tree of an item or an offer, in the first version beside it, in the second in a row of its own
abbrev pub tree_of : Answers → ℕ → Option Data → Option Data
tree_of a arrival beside = if a.is_second then (if is_none beside then a.tree arrival else None) else beside

-- whether there is a tree, which may be given under this reference
abbrev pub is_tree_for : Ref → Option Data → Bool
is_tree_for r None = false
is_tree_for r (Some tree) = may_be_given tree r

-- an item or an offer has its number, its reference has a record, and its tree is there and of its reference
abbrev pub is_given : Answers → ℕ → Ref → Option Data → Bool
is_given a arrival r beside = has_arrival a arrival && is_some (a.holder r) && is_tree_for r (tree_of a arrival beside)

-- a serial is from 1 to 2 ^ 53 - 1
abbrev pub is_serial : Option ℕ → Bool
is_serial None = false
is_serial (Some serial) = nat_le 1 serial && nat_lt serial (2 ^ 53)

abbrev pub is_right_item : Answers → Text → ℕ → Ref → Option Data → Bool
is_right_item a provider arrival r beside = is_serial (a.serial provider) && is_given a arrival r beside

-- an offer is given, and its reference stands once
abbrev pub is_offer_among : Answers → (Ref → Bool) → StoredOffer → Bool
is_offer_among a stands_once offer = stands_once offer.reference && is_given a offer.arrival offer.reference offer.tree

abbrev pub references_of : List StoredOffer → List Ref
references_of offers = map (λ offer. offer.reference) offers

-- ---- records and orphans

-- whether a row is of this reference
abbrev pub is_row_of : Ref → Option Given → Bool
is_row_of r None = false
is_row_of r (Some row) = bytes_eq row.reference r

-- what is above the row that holds this record, where a row of its reference does
abbrev pub above_record : Answers → Ref → Option ℕ → Above
above_record a r None = Nothing
above_record a r (Some holder) = if is_row_of r (a.given holder) then Row holder else Nothing

-- what is above a row: the provider that gave it, the row that holds the record that gave it, or nothing
abbrev pub above_giver : Answers → Giver → Above
above_giver a OfProvider = Top
above_giver a (OfRecord r) = above_record a r (a.holder r)

abbrev pub above : Answers → Option Given → Above
above a None = Nothing
above a (Some row) = above_giver a row.giver

abbrev pub goes_on : (ℕ → Bool) → Above → Bool
goes_on up Top = true
goes_on up (Row n) = up n
goes_on up Nothing = false

-- whether the way up from a row comes to a provider within so many steps
abbrev pub climbs : Answers → ℕ → ℕ → Bool
climbs a zero n = false
climbs a (suc steps) n = goes_on (climbs a steps) (above a (a.given n))

-- whether the row that holds a record is of its reference, and the way up from it comes to a provider
abbrev pub is_rooted : Answers → Ref → ℕ → Bool
is_rooted a r holder = is_row_of r (a.given holder) && climbs a a.records holder

-- what a record gave last is an entity of its reference, with offers that are right
abbrev pub is_right_output : Answers → Ref → Option StoredOutput → Bool
is_right_output a r None = true
is_right_output a r (Some output) = is_entity output.entity r && list_all (is_offer_among a (is_once text_cmp (references_of output.offers))) output.offers

-- a record has its number and is rooted, its reference is no orphan's, and what it gave last is right
abbrev pub is_right_record : Answers → Ref → ℕ → ℕ → Option StoredOutput → Bool
is_right_record a r holder n output = has_number a n && is_rooted a r holder && not (a.is_orphan r) && is_right_output a r output

abbrev pub is_right_orphan : Answers → Ref → Data → ℕ → Bool
is_right_orphan a r entity n = has_number a n && is_entity entity r

-- ---- rows

-- whether a row keeps to the rules, but for the limit
abbrev pub is_right : Answers → StoredRow → Bool
is_right a (Counter counter next) = is_right_counter a counter next
is_right a (Provider name serial) = true
is_right a (Item provider r arrival key) = is_right_item a provider arrival r None
is_right a (ItemOne provider r arrival key tree) = is_right_item a provider arrival r (Some tree)
is_right a (Shelf name body) = true
is_right a (Record r holder issues n output) = is_right_record a r holder n output
is_right a (RecordOne r holder issues n output) = is_right_record a r holder n (Some output)
is_right a (Orphan r entity n) = is_right_orphan a r entity n
is_right a (Settings rule) = true
is_right a (Tree arrival tree) = is_some (a.given arrival)

-- ---- the limit

abbrev pub tree_weight : Option Data → ℕ
tree_weight None = 0
tree_weight (Some tree) = length (text_of tree)

-- how many input bytes a row adds: the compact text of an item's tree, or a name and a text of the shelf
abbrev pub weight : Answers → StoredRow → ℕ
weight a (Item provider r arrival key) = tree_weight (tree_of a arrival None)
weight a (ItemOne provider r arrival key tree) = tree_weight (tree_of a arrival (Some tree))
weight a (Shelf name body) = length name + length body
weight a row = 0

-- whether a row adds input bytes
abbrev pub is_input : StoredRow → Bool
is_input (Item provider r arrival key) = true
is_input (ItemOne provider r arrival key tree) = true
is_input (Shelf name body) = true
is_input row = false

-- the input bytes of these rows, at most 2 ^ 62
abbrev pub weights : Answers → List StoredRow → ℕ
weights a rows = min (sum_by (weight a) rows) (2 ^ 62)
