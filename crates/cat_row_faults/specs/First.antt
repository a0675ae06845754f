-- The first row of a store that is at fault.
use Rattle.std.specs.Prelude.{◌≡◌, ℕ, ◌<◌, Bool, true, false, not, ◌&&◌, ◌||◌, nat_lt, List, [], ◌∷◌, ◌++◌, ◌⊎◌, codes, slice_get, take}
use Rattle.std.specs.declared.cmp.Ordering.TheVariants.{Less}
use Rattle.std.specs.declared.option.Option.{Option}
use Rattle.std.specs.declared.option.Option.TheVariants.{None, Some}
use Rattle.cat_collections.specs.Table.{Text}
use Rattle.cat_keeper.specs.Store.{RowKey, Rows, row_cmp}
use Rattle.cat_keeper.specs.declared.table.Table.TheVariants.{Counters, Settings}
use Rattle.cat_row_format.specs.declared.row.StoredRow.{StoredRow}
use Rattle.cat_row_faults.specs.Readings.{AreReadings, Readings, read_rows}
use Rattle.cat_row_faults.specs.Rules.{is_input, is_right, weights}
use Rattle.cat_row_faults.specs.Told.{Answers, answers}

-- whether a row passes the limit, with the input bytes of those before it
abbrev pub passes : Answers → ℕ → List StoredRow → StoredRow → Bool
passes a limit before row = is_input row && nat_lt limit (weights a (before ++ row ∷ []))

-- whether a text has no reading, or its row breaks a rule or passes the limit
abbrev pub is_wrong : Answers → ℕ → List StoredRow → Option StoredRow → Bool
is_wrong a limit before None = true
is_wrong a limit before (Some row) = not (is_right a row) || passes a limit before row

-- the row at a place is wrong
pub record IsWrongAt (limit : ℕ) (readings : Readings) (place : ℕ) : Type 0 where
  pub reading : Option StoredRow
  pub at : slice_get readings place ≡ Some reading
  pub wrong : is_wrong (answers readings) limit (read_rows (take place readings)) reading ≡ true

-- a row that a store must have isn't there: that of a counter, or in the second version that of the settings
abbrev pub IsMissing : Answers → RowKey → Type 0
IsMissing a key =
    ((key ≡ (Counters, codes "arrival")) × (a.arrival ≡ None))
    ⊎ (((key ≡ (Counters, codes "number")) × (a.number ≡ None))
    ⊎ ((key ≡ (Settings, codes "store")) × (a.is_second ≡ true) × (a.has_rule ≡ false)))

-- no row is wrong; or the one at this place is, and none before it
abbrev pub IsFirstWrong : ℕ → Readings → Option ℕ → Type 0
IsFirstWrong limit readings None = (place : ℕ) → ¬ IsWrongAt limit readings place
IsFirstWrong limit readings (Some first) = IsWrongAt limit readings first × ((place : ℕ) → place < first → ¬ IsWrongAt limit readings place)

-- this row is missing, and none in an earlier place
abbrev pub IsFirstMissing : Answers → RowKey → Type 0
IsFirstMissing a key = IsMissing a key × ((other : RowKey) → row_cmp other key ≡ Less → ¬ IsMissing a other)

-- the row with this table and key is wrong, or missing
abbrev pub IsAtFault : Rows → ℕ → Readings → RowKey → Type 0
IsAtFault texts limit readings key =
    ((place : ℕ) × (value : Text) × (slice_get texts place ≡ Some (key, value)) × IsWrongAt limit readings place) ⊎ IsMissing (answers readings) key

-- no row is at fault; or this one is, and none in an earlier place
abbrev pub IsFirstFault : Rows → ℕ → Readings → Option RowKey → Type 0
IsFirstFault texts limit readings None = (key : RowKey) → ¬ IsAtFault texts limit readings key
IsFirstFault texts limit readings (Some first) =
    IsAtFault texts limit readings first × ((key : RowKey) → row_cmp key first ≡ Less → ¬ IsAtFault texts limit readings key)

-- What these texts of a store come to: with the readings that they have, this is the first row at fault, in order of table and key, if any is. A store
-- without rows has none.
pub record IsVerdict (texts : Rows) (limit : ℕ) (verdict : Option RowKey) : Type 0 where
  pub readings : Readings
  pub read : AreReadings texts readings
  pub empty : texts ≡ [] → verdict ≡ None
  pub first : ¬ (texts ≡ []) → IsFirstFault texts limit readings verdict
