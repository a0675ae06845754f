-- Block nodes: lists, maps and values on one line.
use Rattle.std.specs.Prelude.{ℕ, zero, suc, Bool, List, [], ◌∷◌, ◌++◌, ◌==◌, ◌&&◌, not, length, take, drop, is_some, Option, None, Some, Result, Ok, Err, if◌then◌else◌}
use Rattle.cat_tree.specs.Ask.{member_at}
use Rattle.cat_tree.specs.Data.{Data, null, dict, Members, no_members}
use Rattle.cat_tree.specs.Edit.{put_member}
use Rattle.cat_yaml.specs.declared.fault.Refusal.{Refusal}
use Rattle.cat_yaml.specs.declared.fault.Refusal.TheVariants.{NoReading}
use Rattle.cat_yaml.specs.declared.literal.Chomping.{Chomping}
use Rattle.cat_yaml.specs.declared.line.Start.TheVariants.{Item, Entry}
use Rattle.cat_yaml.specs.Steps.{and_then}
use Rattle.cat_yaml.specs.Scan.{begins_with, stripped, trimmed, begins_colon, colon_from, is_item, is_quoted}
use Rattle.cat_yaml.specs.Scalar.{is_plain, text_of}
use Rattle.cat_yaml.specs.Quoted.{quoted_end, quoted_text}
use Rattle.cat_yaml.specs.Value.{value, as_list}
use Rattle.cat_yaml.specs.Lines.{Line, indent, is_passed, are_passed, begins, part}
use Rattle.cat_yaml.specs.Literal.{chomping_of, literal}

-- ---- keys

-- what follows a colon, if one stands here that the line's end or a space follows
abbrev pub after_colon : List ℕ → Option (List ℕ)
after_colon [] = None
after_colon (b ∷ s) = if begins_colon (b ∷ s) then Some s else None

-- the key with what follows its colon
abbrev pub with_rest : List ℕ → Option (List ℕ) → Option (List ℕ × List ℕ)
with_rest k None = None
with_rest k (Some r) = Some (k, r)

-- a key in quotes, with spaces or none before the colon
abbrev pub quoted_key : List ℕ → Option ℕ → Option (List ℕ × List ℕ)
quoted_key s None = None
quoted_key s (Some n) = with_rest (take n s) (after_colon (stripped (drop n s)))

-- a plain key, without the spaces before the colon
abbrev pub plain_key : List ℕ → Option ℕ → Option (List ℕ × List ℕ)
plain_key s None = None
plain_key s (Some i) = if is_plain (trimmed 32 (take i s)) then Some (trimmed 32 (take i s), drop (suc i) s) else None

-- the key before the first colon that the line's end or a space follows, and what follows the colon
abbrev pub key_cut : List ℕ → Option (List ℕ × List ℕ)
key_cut s = if is_quoted s then quoted_key s (quoted_end s) else plain_key s (colon_from 0 s)

-- the line has a key
abbrev pub has_key : List ℕ → Bool
has_key s = is_some (key_cut s)

-- the text of a key
abbrev pub key_text : List ℕ → Result (List ℕ) Refusal
key_text s = if is_quoted s then quoted_text s else text_of s

-- the rest of an entry: what follows the hyphen or the colon, without spaces in front, and nothing where that is a comment
abbrev pub rest_of : List ℕ → List ℕ
rest_of s = if begins_with 35 (stripped s) then [] else stripped s

-- ---- values of entries; node reads the block node that begins on a line and goes on in the lines after it

-- the node on the lines below an entry, and null without such lines
abbrev pub nested : (Line → List Line → Result Data Refusal) → List Line → Result Data Refusal
nested node [] = Ok null
nested node (l ∷ ls) =
    if is_passed l then nested node ls else if begins_with 9 l.content then Err NoReading else node l ls

-- literal text, or another value where the rest calls for none
abbrev pub literal_or : Option Chomping → ℕ → List Line → Result Data Refusal → Result Data Refusal
literal_or None n ls other = other
literal_or (Some c) n ls other = literal c n ls

-- the value of an entry at indent n by its rest r and the lines below it: a node there, literal text, or another value
abbrev pub entry_value : (Line → List Line → Result Data Refusal) → ℕ → List ℕ → List Line → Result Data Refusal → Result Data Refusal
entry_value node n r ls other = if length r == 0 then nested node ls else literal_or (chomping_of r) n ls other

-- ---- lists

-- the line with only the rest of an item as its content
abbrev pub item_line : Line → List ℕ → Line
item_line l r = record { width = l.width; content = r }

-- the value of an item by its rest and the lines below it
abbrev pub item_rest : (Line → List Line → Result Data Refusal) → Line → List ℕ → List Line → Result Data Refusal
item_rest node l r ls = entry_value node (indent l) r ls (node (item_line l r) ls)

-- the item at indent n that begins on this line
abbrev pub item : (Line → List Line → Result Data Refusal) → ℕ → Line → List Line → Result Data Refusal
item node n l ls =
    if indent l == n && is_item l.content then item_rest node l (rest_of (drop 1 l.content)) ls else Err NoReading

-- the items that begin on these lines, behind those so far
abbrev pub more_items : (Line → List Line → Result Data Refusal) → ℕ → List Data → List Line → Result (List Data) Refusal
more_items node n done [] = Ok done
more_items node n done (l ∷ ls) =
    if begins (Item n) l
    then and_then (item node n l (part (Item n) ls)) (λ d. more_items node n (done ++ d ∷ []) ls)
    else more_items node n done ls

-- the list that begins on this line
abbrev pub items : (Line → List Line → Result Data Refusal) → Line → List Line → Result (List Data) Refusal
items node l ls =
    and_then (item node (indent l) l (part (Item (indent l)) ls)) (λ d. more_items node (indent l) (d ∷ []) ls)

-- ---- maps

-- the value of a map's entry by its rest and the lines below it
abbrev pub pair_value : (Line → List Line → Result Data Refusal) → ℕ → ℕ → List ℕ → List Line → Result Data Refusal
pair_value node levels n r ls = entry_value node n r ls (if are_passed ls then value levels r else Err NoReading)

-- the entry whose line is cut so
abbrev pub pair_by : (Line → List Line → Result Data Refusal) → ℕ → ℕ → List Line → Option (List ℕ × List ℕ) → Result (List ℕ × Data) Refusal
pair_by node levels n ls None = Err NoReading
pair_by node levels n ls (Some k) =
    and_then (key_text k.0) (λ t. and_then (pair_value node levels n (rest_of k.1) ls) (λ d. Ok (t, d)))

-- the key and the value of the entry at indent n that begins on this line
abbrev pub pair : (Line → List Line → Result Data Refusal) → ℕ → ℕ → Line → List Line → Result (List ℕ × Data) Refusal
pair node levels n l ls =
    if indent l == n && not (begins_with 9 l.content) then pair_by node levels n ls (key_cut l.content) else Err NoReading

-- the map with one more entry, whose key it doesn't have yet
abbrev pub with_pair : Members → List ℕ → Data → Result Members Refusal
with_pair ms k d = if is_some (member_at k ms) then Err NoReading else Ok (put_member k d ms)

-- the map so far with the entries that begin on these lines
abbrev pub more_pairs : (Line → List Line → Result Data Refusal) → ℕ → ℕ → Members → List Line → Result Members Refusal
more_pairs node levels n ms [] = Ok ms
more_pairs node levels n ms (l ∷ ls) =
    if begins (Entry n) l
    then and_then (pair node levels n l (part (Entry n) ls)) (λ p. and_then (with_pair ms p.0 p.1) (λ more. more_pairs node levels n more ls))
    else more_pairs node levels n ms ls

-- the map that begins on this line
abbrev pub pairs : (Line → List Line → Result Data Refusal) → ℕ → Line → List Line → Result Members Refusal
pairs node levels l ls =
    and_then (pair node levels (indent l) l (part (Entry (indent l)) ls))
    (λ p. and_then (with_pair no_members p.0 p.1) (λ ms. more_pairs node levels (indent l) ms ls))

-- ---- nodes

-- the entries as a map
abbrev pub as_map : Result Members Refusal → Result Data Refusal
as_map (Ok ms) = Ok (dict ms)
as_map (Err e) = Err e

-- a value on one line has no other lines
abbrev pub alone : ℕ → Line → List Line → Result Data Refusal
alone levels l ls = if are_passed ls then value levels l.content else Err NoReading

-- the block node that begins on a line and goes on in the lines after it, where so many levels of lists and maps may open:
-- a list where the line has an item, else a map where it has a key, else a value on one line
unfoldable pub block : ℕ → Line → List Line → Result Data Refusal
block zero l ls = if is_item l.content then Err NoReading else if has_key l.content then Err NoReading else alone 0 l ls
block (suc n) l ls =
    if is_item l.content then as_list (items (block n) l ls)
    else if has_key l.content then as_map (pairs (block n) n l ls)
    else alone (suc n) l ls
