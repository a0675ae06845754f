-- Which rows a store may be refused for, and which of them is named.
use Rattle.std.specs.Prelude.{◌≡◌, ℕ, ⊤, ◌⊎◌, codes}
use Rattle.std.specs.declared.option.Option.TheVariants.{None, Some}
use Rattle.cat_row_faults.specs.Difference.{PartAt}
use Rattle.cat_row_faults.specs.First.{IsVerdict}
use Rattle.cat_keeper.specs.Store.{RowKey, Rows}
use Rattle.cat_keeper.specs.declared.table.Table.TheVariants.{Counters}
use Rattle.cat_model.specs.Catalogue.{Rules}
use Rattle.cat_row_reader.specs.Candidate.{IsCandidate}
use Rattle.cat_row_reader.specs.Read.{AreNoTexts}
use Rattle.cat_row_reader.specs.declared.types.Candidate.{Candidate}
use Rattle.cat_row_updates.specs.Right.{AreOfNone}
use Rattle.cat_stored_rows.specs.Opened.{is_first, rows_in}
use Rattle.cat_stored_rows.specs.Stored.{texts_of}
use Rattle.cat_store.specs.declared.open.OpenFault.{OpenFault}
use Rattle.cat_store.specs.declared.open.OpenFault.TheVariants.{Keeper, Row, NoMemory}

-- a row is refused only where the store has the rows of no state that opens
abbrev pub IsRefused : Rules → ℕ → Rows → OpenFault → Type 0
IsRefused rules limit rows Keeper = ⊤
IsRefused rules limit rows (Row table key) = AreOfNone rules limit rows
IsRefused rules limit rows NoMemory = ⊤

-- the rows stand for no state, or are just those of the one that they stand for, in the version that they are of
abbrev pub AreTheirs : Rows → Type 0
AreTheirs rows = AreNoTexts rows ⊎ ((found : Candidate) × IsCandidate rows found × (rows ≡ texts_of (rows_in (is_first rows) found.rule found.state)))

-- they differ from those first in the row of this key
abbrev pub IsDifference : Rows → RowKey → Type 0
IsDifference rows key = (found : Candidate) × IsCandidate rows found × PartAt rows (texts_of (rows_in (is_first rows) found.rule found.state)) key

-- this is that row, or the row of the arrivals' counter where there is none
abbrev pub IsDiffering : Rows → RowKey → Type 0
IsDiffering rows key = IsDifference rows key ⊎ ((key ≡ (Counters, codes "arrival")) × AreTheirs rows)

-- the row that is named is the first at fault among the rows, in order of table and key; where none is, it is that by which they differ from those of their state
abbrev pub IsNamed : ℕ → Rows → OpenFault → Type 0
IsNamed limit rows Keeper = ⊤
IsNamed limit rows (Row table key) = IsVerdict rows limit (Some (table, key)) ⊎ (IsVerdict rows limit None × IsDiffering rows (table, key))
IsNamed limit rows NoMemory = ⊤
