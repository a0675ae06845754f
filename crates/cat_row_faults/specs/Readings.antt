-- What the texts of a store are read to, each for itself.
use Rattle.std.specs.Prelude.{List, [], ◌∷◌, ◌++◌, ⊤}
use Rattle.std.specs.declared.option.Option.{Option}
use Rattle.std.specs.declared.option.Option.TheVariants.{None, Some}
use Rattle.cat_collections.specs.Table.{Text}
use Rattle.cat_keeper.specs.Store.{RowKey, Rows}
use Rattle.cat_row_format.specs.declared.row.StoredRow.{StoredRow}
use Rattle.cat_row_reader.specs.Read.{IsSpelled}

-- a row for each text that spells one
abbrev pub Readings : Type 0
Readings = List (Option StoredRow)

-- these texts spell the row, or no row
abbrev pub IsReading : RowKey × Text → Option StoredRow → Type 0
IsReading e None = (row : StoredRow) → ¬ IsSpelled e row
IsReading e (Some row) = IsSpelled e row

-- each of the texts has the reading at its place
abbrev pub AreReadings : Rows → Readings → Type 0
AreReadings [] [] = ⊤
AreReadings [] (o ∷ os) = ⊥
AreReadings (e ∷ es) [] = ⊥
AreReadings (e ∷ es) (o ∷ os) = IsReading e o × AreReadings es os

-- the row of a reading, if it has one
abbrev pub row_in : Option StoredRow → List StoredRow
row_in None = []
row_in (Some row) = row ∷ []

-- the rows that have a reading, in their order
abbrev pub read_rows : Readings → List StoredRow
read_rows [] = []
read_rows (o ∷ os) = row_in o ++ read_rows os
