-- What a store holds, and what a batch makes of it.
use Rattle.std.specs.Prelude.{List, [], ◌∷◌}
use Rattle.std.specs.declared.cmp.Ordering.{Ordering}
use Rattle.cat_collections.specs.Pairs.{pair_cmp}
use Rattle.cat_collections.specs.Rows.{without}
use Rattle.cat_collections.specs.Table.{Text, text_cmp, put}
use Rattle.cat_keeper.specs.Tables.{table_cmp}
use Rattle.cat_keeper.specs.declared.table.Table.{Table}
use Rattle.cat_keeper.specs.declared.rows.Change.{Change}
use Rattle.cat_keeper.specs.declared.rows.Change.TheVariants.{Put, Gone}

-- where a row stands: its table and its key
abbrev pub RowKey : Type 0
RowKey = Table × Text

-- rows stand in order of the tables, and in a table by the bytes of their keys
abbrev pub row_cmp : RowKey → RowKey → Ordering
row_cmp = pair_cmp table_cmp text_cmp

-- the rows of a store: the value of each key
abbrev pub Rows : Type 0
Rows = List (RowKey × Text)

-- what becomes of rows: one for each key that changes
abbrev pub Changes : Type 0
Changes = List (RowKey × Change)

-- the rows after one change
abbrev pub changed : RowKey → Change → Rows → Rows
changed key (Put value) rows = put row_cmp key value rows
changed key Gone rows = without row_cmp key rows

-- the rows after all changes of a batch
abbrev pub applied : Changes → Rows → Rows
applied [] rows = rows
applied (c ∷ cs) rows = applied cs (changed c.0 c.1 rows)
