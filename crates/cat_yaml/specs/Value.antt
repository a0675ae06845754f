-- A value on one line: a quoted text, a list in brackets, an empty map, or a plain value.
use Rattle.std.specs.Prelude.{ℕ, suc, List, [], ◌∷◌, ◌++◌, Bool, ◌==◌, length, take, drop, Option, None, Some, Result, Ok, Err, codes, if◌then◌else◌}
use Rattle.std.specs.List.{list_any}
use Rattle.cat_tree.specs.Data.{Data, list, dict, no_members, items_of}
use Rattle.cat_yaml.specs.declared.fault.Refusal.{Refusal}
use Rattle.cat_yaml.specs.declared.fault.Refusal.TheVariants.{NoReading}
use Rattle.cat_yaml.specs.Steps.{and_then}
use Rattle.cat_yaml.specs.Scan.{begins_with, stripped, trimmed, comment_from, uncommented, is_end, is_quoted}
use Rattle.cat_yaml.specs.Scalar.{as_words, plain_value}
use Rattle.cat_yaml.specs.Quoted.{quoted_end, quoted_text}

-- a list or a map, where one more level may open
abbrev pub opened : ℕ → Result Data Refusal → Result Data Refusal
opened levels r = if levels == 0 then Err NoReading else r

-- ---- lists in brackets

-- a comma, a bracket or a brace
abbrev pub is_flow_mark : ℕ → Bool
is_flow_mark b = list_any (λ c. c == b) (codes ",[]{}")

-- where the first comma, bracket or brace stands, or the end, counted from i on
abbrev pub flow_from : ℕ → List ℕ → ℕ
flow_from i [] = i
flow_from i (b ∷ s) = if is_flow_mark b then i else flow_from (suc i) s

-- where the value that begins here ends
abbrev pub item_end : List ℕ → Option ℕ
item_end s = if is_quoted s then quoted_end s else Some (flow_from 0 s)

-- a plain value in brackets has no comment
abbrev pub flow_plain : List ℕ → Result Data Refusal
flow_plain s = if comment_from 0 s == length s then plain_value s else Err NoReading

-- a value in brackets
abbrev pub flow_value : List ℕ → Result Data Refusal
flow_value s = if is_quoted s then as_words (quoted_text s) else flow_plain (trimmed 32 s)

-- the value that ends there
abbrev pub item_by : List ℕ → Option ℕ → Result Data Refusal
item_by s None = Err NoReading
item_by s (Some n) = flow_value (take n s)

-- what follows the value that ends there, without spaces in front
abbrev pub after_by : List ℕ → Option ℕ → List ℕ
after_by s None = []
after_by s (Some n) = stripped (drop n s)

-- nothing but a comment follows the closing bracket
abbrev pub closed : List Data → List ℕ → Result (List Data) Refusal
closed done s = if is_end s then Ok done else Err NoReading

-- after a value more follow behind a comma, or the list ends
abbrev pub after_item : (List Data → List ℕ → Result (List Data) Refusal) → List Data → List ℕ → Result (List Data) Refusal
after_item more done s =
    if begins_with 44 s then more done (stripped (drop 1 s))
    else if begins_with 93 s then closed done (drop 1 s)
    else Err NoReading

-- more values, each with a comma or the closing bracket behind it, and at most as many as there are turns
abbrev pub flow_items : List ℕ → List Data → List ℕ → Result (List Data) Refusal
flow_items [] done s = Err NoReading
flow_items (b ∷ turns) done s =
    and_then (item_by s (item_end s)) (λ d. after_item (flow_items turns) (done ++ d ∷ []) (after_by s (item_end s)))

-- no values, or those up to the closing bracket
abbrev pub flow_list_at : List ℕ → Result (List Data) Refusal
flow_list_at s =
    if begins_with 93 s then (if is_end (drop 1 s) then Ok [] else Err NoReading) else flow_items s [] s

-- the values as a list
abbrev pub as_list : Result (List Data) Refusal → Result Data Refusal
as_list (Ok ds) = Ok (list (items_of ds))
as_list (Err e) = Err e

-- what follows an opening bracket: values parted by commas, or none
abbrev pub flow_list : List ℕ → Result Data Refusal
flow_list s = as_list (flow_list_at (stripped s))

-- ---- values

-- what follows an opening brace: the closing one
abbrev pub empty_map : List ℕ → Result Data Refusal
empty_map s =
    if begins_with 125 s then (if is_end (drop 1 s) then Ok (dict no_members) else Err NoReading) else Err NoReading

-- a quoted text behind which nothing but a comment stands
abbrev pub quoted_value : List ℕ → Option ℕ → Result Data Refusal
quoted_value s None = Err NoReading
quoted_value s (Some n) = if is_end (drop n s) then as_words (quoted_text (take n s)) else Err NoReading

-- a value on one line, where so many more levels may open
abbrev pub value : ℕ → List ℕ → Result Data Refusal
value levels s =
    if is_quoted s then quoted_value s (quoted_end s)
    else if begins_with 91 s then opened levels (flow_list (drop 1 s))
    else if begins_with 123 s then opened levels (empty_map (stripped (drop 1 s)))
    else plain_value (uncommented s)
