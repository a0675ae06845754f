-- The row that a table, a key and a tree have in them, where nothing else is asked of the tree.
use Rattle.std.specs.Prelude.{◌≡◌, ℕ, ◌^◌, pos, negsuc, List, [], ◌∷◌, ◌++◌, Bool, true, false, Option, None, Some, Result, Ok, Err, ◌&&◌, ◌==◌, ◌*◌, ◌+◌, ◌-◌, nat_lt, nat_le, is_some, length, if◌then◌else◌, bytes_eq, codes}
use Rattle.std.specs.List.{before_first, after_first, position_or_len}
use Rattle.std.specs.Option.{ok_or}
use Rattle.cat_types.specs.Reference.{parsed, text_in, text_at}
use Rattle.cat_types.specs.declared.fault.RefFault.{RefFault}
use Rattle.cat_stitch.specs.Issues.{level_text, issue_name_text}
use Rattle.cat_collections.specs.Table.{Text}
use Rattle.cat_tree.specs.Ask.{child_of}
use Rattle.cat_tree.specs.Data.{Data, null, flag, whole, words, list, dict, Items, no_items, item}
use Rattle.cat_types.specs.declared.issue.Issue.{Issue}
use Rattle.cat_types.specs.declared.issue.IssueName.{IssueName}
use Rattle.cat_types.specs.declared.issue.IssueName.TheVariants.{SchemaFault, ReferenceFault, TargetFault, MissingTarget, ShelfFault, DuplicateOffer}
use Rattle.cat_types.specs.declared.issue.Level.{Level}
use Rattle.cat_types.specs.declared.issue.Level.TheVariants.{Error, Warning}
use Rattle.cat_keeper.specs.declared.table.Table.{Table}
use Rattle.cat_keeper.specs.declared.table.Table.TheVariants as table
use Rattle.cat_row_format.specs.Names.{counter_text, rule_text}
use Rattle.cat_row_format.specs.declared.row.OrphanRule.{OrphanRule}
use Rattle.cat_row_format.specs.declared.row.OrphanRule.TheVariants.{Keep, Delete}
use Rattle.cat_row_format.specs.declared.row.RowFault.{RowFault}
use Rattle.cat_row_format.specs.declared.row.RowFault.TheVariants.{BadRow}
use Rattle.cat_row_format.specs.declared.row.StoredCounter.{StoredCounter}
use Rattle.cat_row_format.specs.declared.row.StoredCounter.TheVariants.{Arrival, Number}
use Rattle.cat_row_format.specs.declared.row.StoredOffer.{StoredOffer}
use Rattle.cat_row_format.specs.declared.row.StoredOutput.{StoredOutput}
use Rattle.cat_row_format.specs.declared.row.StoredRow.{StoredRow}
use Rattle.cat_row_format.specs.declared.row.StoredRow.TheVariants.{Counter, Provider, Item, Shelf, Record, Orphan, Settings, Tree, ItemOne, RecordOne}

-- ---- steps that may refuse

-- the next step on what the first one gives
abbrev pub and_then : {A B : Type 0} → Result A RowFault → (A → Result B RowFault) → Result B RowFault
and_then (Ok x) next = next x
and_then (Err e) next = Err e

-- these, and then those
abbrev pub with_front : {A : Type 0} → List A → Result (List A) RowFault → Result (List A) RowFault
with_front xs (Ok ys) = Ok (xs ++ ys)
with_front xs (Err e) = Err e

-- this one, and then those
abbrev pub onto : {A : Type 0} → Result A RowFault → Result (List A) RowFault → Result (List A) RowFault
onto (Ok x) more = with_front (x ∷ []) more
onto (Err e) more = Err e

-- f of each tree of a list
abbrev pub each_of : {A : Type 0} → (Data → Result A RowFault) → Items → Result (List A) RowFault
each_of f no_items = Ok []
each_of f (item d ds) = onto (f d) (each_of f ds)

-- f of each tree of a tree that is a list
abbrev pub each_in : {A : Type 0} → (Data → Result A RowFault) → Data → Result (List A) RowFault
each_in f null = Err BadRow
each_in f (flag b) = Err BadRow
each_in f (whole z) = Err BadRow
each_in f (words s) = Err BadRow
each_in f (list ds) = each_of f ds
each_in f (dict ms) = Err BadRow

-- ---- fields

-- the tree at a key
abbrev pub field : Text → Data → Result Data RowFault
field key d = ok_or (child_of key d) BadRow

-- the text at a key
abbrev pub words_at : Text → Data → Result Text RowFault
words_at key d = ok_or (text_at (child_of key d)) BadRow

-- the text that a tree is
abbrev pub words_in : Data → Result Text RowFault
words_in d = ok_or (text_in d) BadRow

-- the number of 64 bits that a tree is
abbrev pub number_in : Data → Result ℕ RowFault
number_in null = Err BadRow
number_in (flag b) = Err BadRow
number_in (whole (pos n)) = if nat_lt n (2 ^ 64) then Ok n else Err BadRow
number_in (whole (negsuc n)) = Err BadRow
number_in (words s) = Err BadRow
number_in (list ds) = Err BadRow
number_in (dict ms) = Err BadRow

-- the number at a key
abbrev pub number_at : Text → Data → Result ℕ RowFault
number_at key d = and_then (field key d) number_in

-- what has a reading
abbrev pub read_or_bad : Result Text RefFault → Result Text RowFault
read_or_bad (Ok text) = Ok text
read_or_bad (Err e) = Err BadRow

-- the reference that a text names, which leaves out no kind and no namespace
abbrev pub reference_in : Text → Result Text RowFault
reference_in text = read_or_bad (parsed text None [])

-- the reference at a key
abbrev pub reference_at : Text → Data → Result Text RowFault
reference_at key d = and_then (words_at key d) reference_in

-- ---- words

-- the level of a name
abbrev pub level_in : Text → Result Level RowFault
level_in s =
    if bytes_eq s (codes "error") then Ok Error
    else (if bytes_eq s (codes "warning") then Ok Warning
    else Err BadRow)

-- what an issue of a name is about
abbrev pub issue_name_in : Text → Result IssueName RowFault
issue_name_in s =
    if bytes_eq s (codes "SchemaFault") then Ok SchemaFault
    else (if bytes_eq s (codes "ReferenceFault") then Ok ReferenceFault
    else (if bytes_eq s (codes "TargetFault") then Ok TargetFault
    else (if bytes_eq s (codes "MissingTarget") then Ok MissingTarget
    else (if bytes_eq s (codes "ShelfFault") then Ok ShelfFault
    else (if bytes_eq s (codes "DuplicateOffer") then Ok DuplicateOffer
    else Err BadRow)))))

-- the counter of a name
abbrev pub counter_in : Text → Result StoredCounter RowFault
counter_in s =
    if bytes_eq s (codes "arrival") then Ok Arrival
    else (if bytes_eq s (codes "number") then Ok Number
    else Err BadRow)

-- the rule of a name
abbrev pub rule_in : Text → Result OrphanRule RowFault
rule_in s =
    if bytes_eq s (codes "keep") then Ok Keep
    else (if bytes_eq s (codes "delete") then Ok Delete
    else Err BadRow)

-- the value of a hexadecimal digit in lower case
abbrev pub digit_in : ℕ → Option ℕ
digit_in b =
    if nat_le 48 b && nat_le b 57 then Some (b - 48)
    else (if nat_le 97 b && nat_le b 102 then Some (b - 87)
    else None)

-- a number with one digit more, if that is one
abbrev pub with_digit : ℕ → Option ℕ → Result ℕ RowFault
with_digit n None = Err BadRow
with_digit n (Some d) = Ok (n * 16 + d)

-- the number of hexadecimal digits, behind those that were read
abbrev pub hex_from : ℕ → List ℕ → Result ℕ RowFault
hex_from n [] = Ok n
hex_from n (b ∷ bs) = and_then (with_digit n (digit_in b)) (λ m. hex_from m bs)

-- the number of sixteen hexadecimal digits
abbrev pub hex_in : Text → Result ℕ RowFault
hex_in s = if length s == 16 then hex_from 0 s else Err BadRow

-- ---- parts

-- the level of an issue
abbrev pub level_at : Data → Result Level RowFault
level_at d = and_then (words_at (codes "level") d) level_in

-- what an issue is about
abbrev pub issue_name_at : Data → Result IssueName RowFault
issue_name_at d = and_then (words_at (codes "name") d) issue_name_in

-- an issue
abbrev pub issue_in : Data → Result Issue RowFault
issue_in d =
    and_then (level_at d) (λ level. and_then (issue_name_at d) (λ name. and_then (words_at (codes "message") d) (λ message.
    Ok (record { level = level; name = name; message = message }))))

-- the issues of a record
abbrev pub issues_at : Data → Result (List Issue) RowFault
issues_at d = and_then (field (codes "issues") d) (each_in issue_in)

-- an offer
abbrev pub offer_in : Data → Result StoredOffer RowFault
offer_in d =
    and_then (number_at (codes "arrival") d) (λ arrival.
    and_then (words_at (codes "key") d) (λ key.
    and_then (reference_at (codes "ref") d) (λ reference.
    Ok (record { arrival = arrival; key = key; reference = reference; tree = child_of (codes "tree") d }))))

-- the offers of what a record gave last
abbrev pub offers_at : Data → Result (List StoredOffer) RowFault
offers_at d = and_then (field (codes "offers") d) (each_in offer_in)

-- what a record gave last
abbrev pub output_in : Data → Result StoredOutput RowFault
output_in d =
    and_then (field (codes "entity") d) (λ entity. and_then (offers_at d) (λ offers.
    Ok (record { entity = entity; offers = offers })))

-- what a record gave last, or null
abbrev pub kept_in : Data → Result (Option StoredOutput) RowFault
kept_in null = Ok None
kept_in (flag b) = Err BadRow
kept_in (whole z) = Err BadRow
kept_in (words s) = Err BadRow
kept_in (list ds) = Err BadRow
kept_in (dict ms) = and_then (output_in (dict ms)) (λ output. Ok (Some output))

-- what a record gave last, if it gave anything
abbrev pub kept_at : Data → Result (Option StoredOutput) RowFault
kept_at d = and_then (field (codes "output") d) kept_in

-- ---- rows

-- the row of a counter
abbrev pub counter_row : Text → Data → Result StoredRow RowFault
counter_row key d = and_then (counter_in key) (λ counter. and_then (number_in d) (λ n. Ok (Counter counter n)))

-- the row of a provider
abbrev pub provider_row : Text → Data → Result StoredRow RowFault
provider_row key d = and_then (number_at (codes "serial") d) (λ n. Ok (Provider key n))

-- an item of either version, by whether its tree stands beside it
abbrev pub item_row : Text → Text → ℕ → Text → Option Data → StoredRow
item_row provider reference arrival key None = Item provider reference arrival key
item_row provider reference arrival key (Some tree) = ItemOne provider reference arrival key tree

-- the item of a provider and a reference
abbrev pub item_of : Text → Text → Data → Result StoredRow RowFault
item_of provider name d =
    and_then (reference_in name) (λ reference.
    and_then (number_at (codes "arrival") d) (λ arrival.
    and_then (words_at (codes "key") d) (λ key.
    Ok (item_row provider reference arrival key (child_of (codes "tree") d)))))

-- there is a space
abbrev pub is_parted : Text → Bool
is_parted name = nat_lt (position_or_len (λ b. b == 32) name) (length name)

-- the row of an item
abbrev pub item_in : Text → Data → Result StoredRow RowFault
item_in name d =
    if is_parted name then item_of (before_first (λ b. b == 32) name) (after_first (λ b. b == 32) name) d
    else Err BadRow

-- the text of the shelf
abbrev pub shelf_row : Text → Data → Result StoredRow RowFault
shelf_row key d = and_then (words_in d) (λ body. Ok (Shelf key body))

-- the first offer has its tree beside it
abbrev pub first_has_tree : List StoredOffer → Bool
first_has_tree [] = false
first_has_tree (offer ∷ offers) = is_some offer.tree

-- a record of either version, by whether the first offer has its tree beside it
abbrev pub record_row : Text → ℕ → List Issue → ℕ → Option StoredOutput → StoredRow
record_row reference holder issues n None = Record reference holder issues n None
record_row reference holder issues n (Some output) =
    if first_has_tree output.offers then RecordOne reference holder issues n output
    else Record reference holder issues n (Some output)

-- the row of a record
abbrev pub record_in : Text → Data → Result StoredRow RowFault
record_in key d =
    and_then (reference_in key) (λ reference.
    and_then (number_at (codes "holder") d) (λ holder.
    and_then (issues_at d) (λ issues.
    and_then (number_at (codes "number") d) (λ n.
    and_then (kept_at d) (λ output.
    Ok (record_row reference holder issues n output))))))

-- the row of an orphan
abbrev pub orphan_in : Text → Data → Result StoredRow RowFault
orphan_in key d =
    and_then (reference_in key) (λ reference.
    and_then (field (codes "entity") d) (λ entity.
    and_then (number_at (codes "number") d) (λ n.
    Ok (Orphan reference entity n))))

-- the rule for orphans that settings have
abbrev pub rule_at : Data → Result OrphanRule RowFault
rule_at d = and_then (words_at (codes "orphans") d) rule_in

-- the row of a tree
abbrev pub tree_row : Text → Data → Result StoredRow RowFault
tree_row key d = and_then (hex_in key) (λ n. Ok (Tree n d))

-- the row of a table and a key whose value has this tree
abbrev pub row_in : Table → Text → Data → Result StoredRow RowFault
row_in table.Counters key d = counter_row key d
row_in table.Providers key d = provider_row key d
row_in table.Items key d = item_in key d
row_in table.Shelf key d = shelf_row key d
row_in table.Records key d = record_in key d
row_in table.Orphans key d = orphan_in key d
row_in table.Settings key d = and_then (rule_at d) (λ rule. Ok (Settings rule))
row_in table.Trees key d = tree_row key d
