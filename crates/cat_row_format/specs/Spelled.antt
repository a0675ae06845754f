-- The spelling of a row.
use Rattle.std.specs.Prelude.{◌≡◌, ℕ, List, [], ◌∷◌, Option, None, Some, Ok, ⊤}
use Rattle.cat_types.specs.Reference.{parsed}
use Rattle.cat_collections.specs.Table.{Text}
use Rattle.cat_tree.specs.Read.{ReadsAs}
use Rattle.cat_tree.specs.Text.{text_of}
use Rattle.cat_keeper.specs.declared.table.Table.{Table}
use Rattle.cat_row_format.specs.Text.{row_table, row_key, row_data}
use Rattle.cat_row_format.specs.Formed.{IsStorable}
use Rattle.cat_row_format.specs.declared.row.StoredOffer.{StoredOffer}
use Rattle.cat_row_format.specs.declared.row.StoredOutput.{StoredOutput}
use Rattle.cat_row_format.specs.declared.row.StoredRow.{StoredRow}
use Rattle.cat_row_format.specs.declared.row.StoredRow.TheVariants.{Counter, Provider, Item, Shelf, Record, Orphan, Settings, Tree, ItemOne, RecordOne}

-- the text of a reference, which names itself
abbrev pub IsRef : Text → Type 0
IsRef text = parsed text None [] ≡ Ok text

-- each offer has a reference
abbrev pub OffersNamed : List StoredOffer → Type 0
OffersNamed [] = ⊤
OffersNamed (offer ∷ offers) = IsRef offer.reference × OffersNamed offers

-- each offer of an output has a reference
abbrev pub OutputNamed : Option StoredOutput → Type 0
OutputNamed None = ⊤
OutputNamed (Some output) = OffersNamed output.offers

-- each reference of a row is one
abbrev pub IsNamed : StoredRow → Type 0
IsNamed (Counter counter next) = ⊤
IsNamed (Provider name serial) = ⊤
IsNamed (Item provider reference arrival key) = IsRef reference
IsNamed (Shelf name body) = ⊤
IsNamed (Record reference holder issues number output) = IsRef reference × OutputNamed output
IsNamed (Orphan reference entity number) = IsRef reference
IsNamed (Settings rule) = ⊤
IsNamed (Tree arrival tree) = ⊤
IsNamed (ItemOne provider reference arrival key tree) = IsRef reference
IsNamed (RecordOne reference holder issues number output) = IsRef reference × OffersNamed output.offers

-- A row that can be stored is spelled by its table, its key and the compact text of its tree, which reads as that tree.
pub record IsSpelling (row : StoredRow) (table : Table) (key value : Text) : Type 0 where
  pub storable : IsStorable row
  pub named : IsNamed row
  pub table_is : table ≡ row_table row
  pub key_is : key ≡ row_key row
  pub value_is : value ≡ text_of (row_data row)
  pub reads : ReadsAs value (row_data row)
