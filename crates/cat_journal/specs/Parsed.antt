-- The batch that a tree has in it, and the batch that bytes are the text of.
use Rattle.std.specs.Prelude.{ℕ, zero, suc, ◌^◌, pos, negsuc, List, [], ◌∷◌, ◌++◌, Option, None, Some, Result, Ok, Err, ◌&&◌, nat_lt, if◌then◌else◌, bytes_eq, option_and_then}
use Rattle.std.specs.FinMap.Entries.{is_sorted}
use Rattle.std.specs.Option.{ok_or}
use Rattle.std.specs.Str.{is_utf8}
use Rattle.serde_json.specs.Data as json
use Rattle.serde_json.specs.Read.{read}
use Rattle.serde_json.specs.Written.{has_float}
use Rattle.cat_types.specs.Reference.{text_in}
use Rattle.cat_collections.specs.Table.{Text}
use Rattle.cat_tree.specs.Data.{Data, null, flag, whole, words, list, dict, Items, no_items, item}
use Rattle.cat_tree.specs.Read.{tree_of}
use Rattle.cat_keeper.specs.Store.{RowKey, Changes, row_cmp}
use Rattle.cat_keeper.specs.declared.table.Table.{Table}
use Rattle.cat_keeper.specs.declared.table.Table.TheVariants.{Counters, Providers, Items as ItemsTable, Shelf, Records, Orphans, Settings, Trees}
use Rattle.cat_keeper.specs.declared.rows.Change.{Change}
use Rattle.cat_keeper.specs.declared.rows.Change.TheVariants.{Put, Gone}
use Rattle.cat_journal.specs.Batches as batches
use Rattle.cat_journal.specs.declared.body.BodyFault.{BodyFault}
use Rattle.cat_journal.specs.declared.body.BodyFault.TheVariants.{NoBatch}

-- a table, by its number
abbrev pub table_data : Table → Data
table_data table = batches.table_data table

-- the next step on what the first one gives
abbrev pub and_then : {A B : Type 0} → Result A BodyFault → (A → Result B BodyFault) → Result B BodyFault
and_then (Ok x) next = next x
and_then (Err e) next = Err e

-- these, and then those
abbrev pub with_front : {A : Type 0} → List A → Result (List A) BodyFault → Result (List A) BodyFault
with_front xs (Ok ys) = Ok (xs ++ ys)
with_front xs (Err e) = Err e

-- this one, and then those
abbrev pub onto : {A : Type 0} → Result A BodyFault → Result (List A) BodyFault → Result (List A) BodyFault
onto (Ok x) more = with_front (x ∷ []) more
onto (Err e) more = Err e

-- the number of 64 bits that a tree is
abbrev pub number_in : Data → Result ℕ BodyFault
number_in null = Err NoBatch
number_in (flag b) = Err NoBatch
number_in (whole (pos n)) = if nat_lt n (2 ^ 64) then Ok n else Err NoBatch
number_in (whole (negsuc n)) = Err NoBatch
number_in (words s) = Err NoBatch
number_in (list ds) = Err NoBatch
number_in (dict ms) = Err NoBatch

-- the table of a number
abbrev pub table_at : ℕ → Result Table BodyFault
table_at zero = Err NoBatch
table_at (suc zero) = Ok Counters
table_at (suc (suc zero)) = Ok Providers
table_at (suc (suc (suc zero))) = Ok ItemsTable
table_at (suc (suc (suc (suc zero)))) = Ok Shelf
table_at (suc (suc (suc (suc (suc zero))))) = Ok Records
table_at (suc (suc (suc (suc (suc (suc zero)))))) = Ok Orphans
table_at (suc (suc (suc (suc (suc (suc (suc zero))))))) = Ok Settings
table_at (suc (suc (suc (suc (suc (suc (suc (suc zero)))))))) = Ok Trees
table_at (suc (suc (suc (suc (suc (suc (suc (suc (suc n))))))))) = Err NoBatch

-- the table whose number a tree is
abbrev pub table_in : Data → Result Table BodyFault
table_in d = and_then (number_in d) table_at

-- the text that a tree is
abbrev pub words_in : Data → Result Text BodyFault
words_in d = ok_or (text_in d) NoBatch

-- the row that a change is of
abbrev pub key_in : Data → Data → Result RowKey BodyFault
key_in table key = and_then (table_in table) (λ t. and_then (words_in key) (λ k. Ok (t, k)))

-- a row that is gone
abbrev pub gone_in : Data → Data → Result (RowKey × Change) BodyFault
gone_in table key = and_then (key_in table key) (λ k. Ok (k, Gone))

-- a value that is put
abbrev pub put_in : Data → Data → Data → Result (RowKey × Change) BodyFault
put_in table key value = and_then (key_in table key) (λ k. and_then (words_in value) (λ v. Ok (k, Put v)))

-- the change of two or three trees
abbrev pub change_of : Items → Result (RowKey × Change) BodyFault
change_of no_items = Err NoBatch
change_of (item a no_items) = Err NoBatch
change_of (item a (item b no_items)) = gone_in a b
change_of (item a (item b (item c no_items))) = put_in a b c
change_of (item a (item b (item c (item d ds)))) = Err NoBatch

-- the change that a tree has in it
abbrev pub change_in : Data → Result (RowKey × Change) BodyFault
change_in null = Err NoBatch
change_in (flag b) = Err NoBatch
change_in (whole z) = Err NoBatch
change_in (words s) = Err NoBatch
change_in (list ds) = change_of ds
change_in (dict ms) = Err NoBatch

-- the changes of a list
abbrev pub changes_of : Items → Result Changes BodyFault
changes_of no_items = Ok []
changes_of (item d ds) = onto (change_in d) (changes_of ds)

-- the changes that a tree has in it
abbrev pub changes_in : Data → Result Changes BodyFault
changes_in null = Err NoBatch
changes_in (flag b) = Err NoBatch
changes_in (whole z) = Err NoBatch
changes_in (words s) = Err NoBatch
changes_in (list ds) = changes_of ds
changes_in (dict ms) = Err NoBatch

-- the changes, where they are a batch with this text
abbrev pub checked : List ℕ → Result Changes BodyFault → Option Changes
checked body (Ok cs) = if bytes_eq (batches.batch_text cs) body && is_sorted row_cmp cs then Some cs else None
checked body (Err e) = None

-- the batch of a JSON value with this text
abbrev pub batch_in : List ℕ → json.Data → Option Changes
batch_in body value = if has_float value then None else checked body (changes_in (tree_of value))

-- the batch that these bytes are the text of, if they are one's
unfoldable pub batch_of : List ℕ → Option Changes
batch_of body = if is_utf8 body then option_and_then (batch_in body) (read body) else None
