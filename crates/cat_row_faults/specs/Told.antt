-- What the rows of a store tell of each other.
use Rattle.std.specs.Prelude.{ℕ, Bool, false, not, ◌||◌, ◌==◌, List, [], ◌∷◌, flat_map, map, length, is_some, slice_get}
use Rattle.std.specs.declared.option.Option.{Option}
use Rattle.std.specs.declared.option.Option.TheVariants.{None, Some}
use Rattle.std.specs.List.{count_by}
use Rattle.std.specs.Ordering.{eq_by_cmp, nat_cmp}
use Rattle.std.specs.declared.cmp.Ordering.{Ordering}
use Rattle.cat_tree.specs.Data.{Data}
use Rattle.cat_collections.specs.Table.{Text, find, text_cmp}
use Rattle.cat_row_format.specs.declared.row.OrphanRule.{OrphanRule}
use Rattle.cat_row_format.specs.declared.row.StoredCounter.TheVariants.{Arrival, Number}
use Rattle.cat_row_format.specs.declared.row.StoredOffer.{StoredOffer}
use Rattle.cat_row_format.specs.declared.row.StoredOutput.{StoredOutput}
use Rattle.cat_row_format.specs.declared.row.StoredRow.{StoredRow}
use Rattle.cat_row_format.specs.declared.row.StoredRow.TheVariants.{Counter, Provider, Item, Record, RecordOne, Orphan, Settings, Tree, ItemOne}
use Rattle.cat_row_faults.specs.Readings.{Readings, read_rows}
use Rattle.cat_row_faults.specs.declared.told.Given.{Given}
use Rattle.cat_row_faults.specs.declared.told.Giver.TheVariants.{Provider as OfProvider, Record as OfRecord}
use Rattle.cat_row_faults.specs.declared.told.Told.{Told}

-- ---- what one row tells

abbrev pub arrival_in : StoredRow → List ℕ
arrival_in (Counter Arrival next) = next ∷ []
arrival_in row = []

abbrev pub number_in : StoredRow → List ℕ
number_in (Counter Number next) = next ∷ []
number_in row = []

abbrev pub rule_in : StoredRow → List OrphanRule
rule_in (Settings rule) = rule ∷ []
rule_in row = []

abbrev pub serial_in : StoredRow → List (Text × ℕ)
serial_in (Provider name serial) = (name, serial) ∷ []
serial_in row = []

-- an item or an offer under its arrival number: who gave it, and its reference
abbrev pub items_given : ℕ → Text → List (ℕ × Given)
items_given arrival reference = (arrival, record { giver = OfProvider; reference = reference }) ∷ []

abbrev pub offer_given : Text → StoredOffer → ℕ × Given
offer_given emitter offer = (offer.arrival, record { giver = OfRecord emitter; reference = offer.reference })

abbrev pub offers_given : Text → Option StoredOutput → List (ℕ × Given)
offers_given emitter None = []
offers_given emitter (Some output) = map (offer_given emitter) output.offers

abbrev pub given_in : StoredRow → List (ℕ × Given)
given_in (Item provider reference arrival key) = items_given arrival reference
given_in (ItemOne provider reference arrival key tree) = items_given arrival reference
given_in (Record reference holder issues n output) = offers_given reference output
given_in (RecordOne reference holder issues n output) = offers_given reference (Some output)
given_in row = []

-- the number of a record or an orphan
abbrev pub drawn_in : StoredRow → List ℕ
drawn_in (Record reference holder issues n output) = n ∷ []
drawn_in (RecordOne reference holder issues n output) = n ∷ []
drawn_in (Orphan reference entity n) = n ∷ []
drawn_in row = []

abbrev pub holder_in : StoredRow → List (Text × ℕ)
holder_in (Record reference holder issues n output) = (reference, holder) ∷ []
holder_in (RecordOne reference holder issues n output) = (reference, holder) ∷ []
holder_in row = []

abbrev pub orphan_in : StoredRow → List (Text × Unit {0})
orphan_in (Orphan reference entity n) = (reference, tt) ∷ []
orphan_in row = []

abbrev pub tree_in : StoredRow → List (ℕ × Data)
tree_in (Tree arrival tree) = (arrival, tree) ∷ []
tree_in row = []

-- ---- what all rows tell

-- whether something stands once among these
abbrev pub is_once : {K : Type 0} → (K → K → Ordering) → List K → K → Bool
is_once R ks k = count_by (eq_by_cmp R k) ks == 1

-- What is asked of the rows of a store: how many there are, the next numbers of the counters, whether the store is of the second version and states a rule
-- for orphans, the serial of a provider, what first arrived with a number, whether an arrival number and a number of a record or an orphan stand once,
-- the arrival number of the row that holds a reference, how many records there are, whether a reference is an orphan, and the tree in the row of an
-- arrival number.
pub record Answers : Type 0 where
  pub rows : ℕ
  pub arrival : Option ℕ
  pub number : Option ℕ
  pub is_second : Bool
  pub has_rule : Bool
  pub serial : Text → Option ℕ
  pub given : ℕ → Option Given
  pub arrives_once : ℕ → Bool
  pub drawn_once : ℕ → Bool
  pub holder : Text → Option ℕ
  pub records : ℕ
  pub is_orphan : Text → Bool
  pub tree : ℕ → Option Data

-- the answers of these rows
abbrev pub answers_of : ℕ → List StoredRow → Answers
answers_of n rows =
    record {
      rows = n;
      arrival = slice_get (flat_map arrival_in rows) 0;
      number = slice_get (flat_map number_in rows) 0;
      is_second = not (length (flat_map rule_in rows) == 0) || not (length (flat_map tree_in rows) == 0);
      has_rule = not (length (flat_map rule_in rows) == 0);
      serial = λ name. find text_cmp name (flat_map serial_in rows);
      given = λ n. find nat_cmp n (flat_map given_in rows);
      arrives_once = is_once nat_cmp (map (λ e. e.0) (flat_map given_in rows));
      drawn_once = is_once nat_cmp (flat_map drawn_in rows);
      holder = λ r. find text_cmp r (flat_map holder_in rows);
      records = length (flat_map holder_in rows);
      is_orphan = λ r. is_some (find text_cmp r (flat_map orphan_in rows));
      tree = λ n. find nat_cmp n (flat_map tree_in rows);
    }

-- the answers of the rows of a store that have a reading
abbrev pub answers : Readings → Answers
answers readings = answers_of (length readings) (read_rows readings)

-- ---- the same, as the code has it

-- whether a key was noted once
abbrev pub is_first : Option Bool → Bool
is_first None = false
is_first (Some again) = not again

abbrev pub asked : Told → Answers
asked t =
    record {
      rows = t.rows;
      arrival = t.arrival;
      number = t.number;
      is_second = t.is_second;
      has_rule = t.has_rule;
      serial = λ name. find text_cmp name t.serials;
      given = λ n. find nat_cmp n t.given;
      arrives_once = λ n. is_first (find nat_cmp n t.arrivals);
      drawn_once = λ n. is_first (find nat_cmp n t.numbers);
      holder = λ r. find text_cmp r t.holders;
      records = t.records;
      is_orphan = λ r. is_some (find text_cmp r t.orphans);
      tree = λ n. find nat_cmp n t.trees;
    }
