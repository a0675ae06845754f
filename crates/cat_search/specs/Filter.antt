-- How a filter is read, and which documents it accepts.
use Rattle.std.specs.Prelude.{ℕ, suc, ◌==◌, nat_lt, List, [], ◌∷◌, ◌++◌, length, Bool, ◌&&◌, ◌||◌, Option, Some, None, Result, Ok, Err, reverse, if◌then◌else◌}
use Rattle.std.specs.List.{filter, list_any, list_all, slice_split, position_or_len, before_first, after_first}
use Rattle.cat_tree.specs.Data.{Data}
use Rattle.cat_state_parts.specs.Rows.{Row, same_text, has_row, document_rows}
use Rattle.cat_search.specs.declared.condition.Condition.{Condition}
use Rattle.cat_search.specs.declared.condition.FilterFault.{FilterFault}
use Rattle.cat_search.specs.declared.condition.FilterFault.TheVariants.{EmptyKey}

-- ---- reading

-- the text without the spaces that it begins with
abbrev pub unspaced : List ℕ → List ℕ
unspaced [] = []
unspaced (b ∷ bs) = if b == 32 then unspaced bs else b ∷ bs

-- the text without the spaces at its ends
abbrev pub trimmed : List ℕ → List ℕ
trimmed s = reverse (unspaced (reverse (unspaced s)))

-- the pieces between the separators
abbrev pub pieces : ℕ → List ℕ → List (List ℕ)
pieces separator s = slice_split (λ b. b == separator) s

-- `key`, or `key=value` cut at the first `=`
abbrev pub condition_of : List ℕ → Condition
condition_of s = record {
  key = before_first (λ b. b == 61) s;
  value = if nat_lt (position_or_len (λ b. b == 61) s) (length s) then Some (after_first (λ b. b == 61) s) else None;
}

-- a piece without bytes is no condition, and one that begins with `=` is at fault
abbrev pub piece_of : ℕ → List ℕ → Result (Option Condition) FilterFault
piece_of i [] = Ok None
piece_of i (b ∷ bs) = if b == 61 then Err (EmptyKey i) else Ok (Some (condition_of (b ∷ bs)))

-- the condition comes before the others
abbrev pub onto : Condition → Result (List Condition) FilterFault → Result (List Condition) FilterFault
onto c (Ok cs) = Ok (c ∷ cs)
onto c (Err e) = Err e

-- what the first piece gives, and what the others give; the first fault counts
abbrev pub joined : Result (Option Condition) FilterFault → Result (List Condition) FilterFault → Result (List Condition) FilterFault
joined (Err e) r = Err e
joined (Ok None) r = r
joined (Ok (Some c)) r = onto c r

-- the conditions of pieces that are counted from a number
abbrev pub conditions_from : ℕ → List (List ℕ) → Result (List Condition) FilterFault
conditions_from i [] = Ok []
conditions_from i (p ∷ ps) = joined (piece_of i (trimmed p)) (conditions_from (suc i) ps)

-- these conditions come before the others
abbrev pub after_these : List Condition → Result (List Condition) FilterFault → Result (List Condition) FilterFault
after_these cs (Ok ds) = Ok (cs ++ ds)
after_these cs (Err e) = Err e

-- the conditions of a text
abbrev pub filter_of : List ℕ → Result (List Condition) FilterFault
filter_of s = conditions_from 0 (pieces 44 s)

-- ---- accepting

-- the condition holds among the rows
abbrev pub holds : List Row → Condition → Bool
holds rs c = has_row c.key c.value rs

-- one of the conditions with this key holds
abbrev pub key_holds : List Row → List Condition → List ℕ → Bool
key_holds rs cs key = list_any (λ c. same_text key c.key && holds rs c) cs

-- each key of the conditions holds
abbrev pub accepts : List Condition → List Row → Bool
accepts cs rs = list_all (λ c. key_holds rs cs c.key) cs

-- the filter accepts the document
abbrev pub is_match : List Condition → Data → Bool
is_match cs d = accepts cs (document_rows d)

-- one of the filters accepts the document; without a filter all documents match
abbrev pub is_accepted : List (List Condition) → Data → Bool
is_accepted fs d = length fs == 0 || list_any (λ cs. is_match cs d) fs

-- the documents that one of the filters accepts, with their references
abbrev pub matching : List (List Condition) → List (List ℕ × Data) → List (List ℕ × Data)
matching fs ps = filter (λ p. is_accepted fs p.1) ps
