-- What the rows of a store are read to.
use Rattle.std.specs.Prelude.{◌≡◌, List, [], ◌∷◌, ⊤}
use Rattle.cat_tree.specs.Proper.{IsProper}
use Rattle.cat_tree.specs.Text.{text_of}
use Rattle.cat_collections.specs.Table.{Text}
use Rattle.cat_keeper.specs.Store.{RowKey, Rows}
use Rattle.cat_row_format.specs.Formed.{IsStorable}
use Rattle.cat_row_format.specs.Spelled.{IsNamed, IsSpelling}
use Rattle.cat_row_format.specs.Text.{row_data, row_key, row_table}
use Rattle.cat_row_format.specs.declared.row.StoredRow.{StoredRow}

-- these texts spell the row
abbrev pub IsSpelled : RowKey × Text → StoredRow → Type 0
IsSpelled e row = IsSpelling row e.0.0 e.0.1 e.1

-- each of the texts spells the row at its place
abbrev pub AreRead : Rows → List StoredRow → Type 0
AreRead [] [] = ⊤
AreRead [] (row ∷ rows) = ⊥
AreRead (e ∷ es) [] = ⊥
AreRead (e ∷ es) (row ∷ rows) = IsSpelled e row × AreRead es rows

-- a row can be stored, and these are its texts: where they are UTF-8 they spell it
pub record IsTextOf (e : RowKey × Text) (row : StoredRow) : Type 0 where
  pub storable : IsStorable row
  pub proper : IsProper (row_data row)
  pub named : IsNamed row
  pub texts : e ≡ ((row_table row, row_key row), text_of (row_data row))

-- each of the texts is of the row at its place, which can be stored
abbrev pub AreTextsOf : Rows → List StoredRow → Type 0
AreTextsOf [] [] = ⊤
AreTextsOf [] (row ∷ rows) = ⊥
AreTextsOf (e ∷ es) [] = ⊥
AreTextsOf (e ∷ es) (row ∷ rows) = IsTextOf e row × AreTextsOf es rows

-- the texts are of no rows that can be stored
abbrev pub AreNoTexts : Rows → Type 0
AreNoTexts es = (rows : List StoredRow) → AreTextsOf es rows → ⊥
