-- The table, the key and the value of a row.
use Rattle.std.specs.Prelude.{ℕ, pos, List, [], ◌∷◌, ◌++◌, Option, None, Some, map, codes}
use Rattle.cat_stitch.specs.Issues.{level_text, issue_name_text}
use Rattle.cat_stitch.specs.Uid.{last_digits}
use Rattle.cat_collections.specs.Table.{Text}
use Rattle.cat_tree.specs.Data.{Data, null, whole, words, list, dict, items_of, members_of}
use Rattle.cat_types.specs.declared.issue.Issue.{Issue}
use Rattle.cat_keeper.specs.declared.table.Table.{Table}
use Rattle.cat_keeper.specs.declared.table.Table.TheVariants as table
use Rattle.cat_row_format.specs.Names.{counter_text, rule_text}
use Rattle.cat_row_format.specs.declared.row.StoredOffer.{StoredOffer}
use Rattle.cat_row_format.specs.declared.row.StoredOutput.{StoredOutput}
use Rattle.cat_row_format.specs.declared.row.StoredRow.{StoredRow}
use Rattle.cat_row_format.specs.declared.row.StoredRow.TheVariants.{Counter, Provider, Item, Shelf, Record, Orphan, Settings, Tree, ItemOne, RecordOne}

-- the table of a row
abbrev pub row_table : StoredRow → Table
row_table (Counter counter next) = table.Counters
row_table (Provider name serial) = table.Providers
row_table (Item provider reference arrival key) = table.Items
row_table (Shelf name body) = table.Shelf
row_table (Record reference holder issues number output) = table.Records
row_table (Orphan reference entity number) = table.Orphans
row_table (Settings rule) = table.Settings
row_table (Tree arrival tree) = table.Trees
row_table (ItemOne provider reference arrival key tree) = table.Items
row_table (RecordOne reference holder issues number output) = table.Records

-- the key of an item: its provider, a space, and its reference
abbrev pub item_key : Text → Text → Text
item_key provider reference = provider ++ 32 ∷ reference

-- the key of a row
abbrev pub row_key : StoredRow → Text
row_key (Counter counter next) = counter_text counter
row_key (Provider name serial) = name
row_key (Item provider reference arrival key) = item_key provider reference
row_key (Shelf name body) = name
row_key (Record reference holder issues number output) = reference
row_key (Orphan reference entity number) = reference
row_key (Settings rule) = codes "store"
row_key (Tree arrival tree) = last_digits 16 arrival
row_key (ItemOne provider reference arrival key tree) = item_key provider reference
row_key (RecordOne reference holder issues number output) = reference

-- ---- values, each the compact text of a tree

-- a number
abbrev pub number : ℕ → Data
number n = whole (pos n)

-- a map of these entries
abbrev pub object : List (Text × Data) → Data
object entries = dict (members_of entries)

-- a list of what f makes of each of these
abbrev pub listed : {X : Type 0} → (X → Data) → List X → Data
listed f xs = list (items_of (map f xs))

-- an issue, by level, message and name
abbrev pub issue_data : Issue → Data
issue_data issue = object (
    (codes "level", words (level_text issue.level))
    ∷ (codes "message", words issue.message)
    ∷ (codes "name", words (issue_name_text issue.name))
    ∷ [])

-- the entry of a tree, where there is one
abbrev pub tree_entry : Option Data → List (Text × Data)
tree_entry None = []
tree_entry (Some tree) = (codes "tree", tree) ∷ []

-- an item, or an offer without its reference, by arrival and key, and with its tree where that is stored beside it
abbrev pub given_data : ℕ → Text → Option Data → Data
given_data arrival key tree = object ((codes "arrival", number arrival) ∷ (codes "key", words key) ∷ tree_entry tree)

-- an offer, by arrival, key and reference, and with its tree where that is stored beside it
abbrev pub offer_data : StoredOffer → Data
offer_data offer = object (
    (codes "arrival", number offer.arrival)
    ∷ (codes "key", words offer.key)
    ∷ (codes "ref", words offer.reference)
    ∷ tree_entry offer.tree)

-- what a record gave last, by entity and offers
abbrev pub output_data : StoredOutput → Data
output_data output = object ((codes "entity", output.entity) ∷ (codes "offers", listed offer_data output.offers) ∷ [])

-- what a record gave last, if it gave anything
abbrev pub kept_data : Option StoredOutput → Data
kept_data None = null
kept_data (Some output) = output_data output

-- a record, by holder, issues, number and what it gave last
abbrev pub record_data : ℕ → List Issue → ℕ → Option StoredOutput → Data
record_data holder issues n output = object (
    (codes "holder", number holder)
    ∷ (codes "issues", listed issue_data issues)
    ∷ (codes "number", number n)
    ∷ (codes "output", kept_data output)
    ∷ [])

-- the tree whose compact text is the value of a row
abbrev pub row_data : StoredRow → Data
row_data (Counter counter next) = number next
row_data (Provider name serial) = object ((codes "serial", number serial) ∷ [])
row_data (Item provider reference arrival key) = given_data arrival key None
row_data (Shelf name body) = words body
row_data (Record reference holder issues n output) = record_data holder issues n output
row_data (Orphan reference entity n) = object ((codes "entity", entity) ∷ (codes "number", number n) ∷ [])
row_data (Settings rule) = object ((codes "orphans", words (rule_text rule)) ∷ (codes "version", number 2) ∷ [])
row_data (Tree arrival tree) = tree
row_data (ItemOne provider reference arrival key tree) = given_data arrival key (Some tree)
row_data (RecordOne reference holder issues n output) = record_data holder issues n (Some output)
