-- The text of a batch.
use Rattle.std.specs.Prelude.{◌≡◌, ℕ, pos, List, map, IsTrue, IsUtf8}
use Rattle.std.specs.FinMap.Entries.{is_sorted}
use Rattle.cat_tree.specs.Data.{Data, whole, words, list, Items, no_items, item, items_of}
use Rattle.cat_tree.specs.Text.{text_of}
use Rattle.cat_keeper.specs.Store.{RowKey, Changes, row_cmp}
use Rattle.cat_keeper.specs.Tables.{table_number}
use Rattle.cat_keeper.specs.declared.table.Table.{Table}
use Rattle.cat_keeper.specs.declared.rows.Change.{Change}
use Rattle.cat_keeper.specs.declared.rows.Change.TheVariants.{Put, Gone}

-- a table, by its number
abbrev pub table_data : Table → Data
table_data table = whole (pos (table_number table))

-- the value that is put, if one is
abbrev pub value_items : Change → Items
value_items (Put value) = item (words value) no_items
value_items Gone = no_items

-- one change: the table, the key, and the value that is put
abbrev pub change_data : RowKey × Change → Data
change_data c = list (item (table_data c.0.0) (item (words c.0.1) (value_items c.1)))

-- the changes of a batch
abbrev pub batch_data : Changes → Data
batch_data cs = list (items_of (map change_data cs))

-- the text of a batch: compact JSON
abbrev pub batch_text : Changes → List ℕ
batch_text cs = text_of (batch_data cs)

-- The changes are a batch, each row once and in order, and these bytes are its text.
pub record IsText (cs : Changes) (body : List ℕ) : Type 0 where
  pub spelled : batch_text cs ≡ body
  pub utf8 : IsUtf8 body
  pub rising : IsTrue (is_sorted row_cmp cs)
